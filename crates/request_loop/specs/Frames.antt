-- Frames: how bytes are cut into them, and what each wants.
use Rattle.std.specs.Prelude.{◌≡◌, ◌⊎◌, ◌<◌, ◌≤◌, ℕ, ℤ, List, [], ◌∷◌, ◌++◌, length, drop, Option, None, Some}
use Rattle.request_loop.specs.declared.frames.Front.{Front}
use Rattle.request_loop.specs.declared.frames.Want.{Want}

-- ---- the rules of a framing

-- How bytes are cut into frames, and which bytes are written for a reply.
pub record Rules (W P E : Type 0) : Type 1 where
  -- the bytes start with a whole frame, which wants this or nothing, and continue with these
  pub whole : List ℕ → Option (Want W E) → List ℕ → Type 0
  -- the bytes are the start of a frame that isn't whole yet, or there are none
  pub begun : List ℕ → Type 0
  -- if the input ends with these bytes, they want this or nothing
  pub ends : List ℕ → Option (Want W E) → Type 0
  -- if there is no memory to read what the first asks, the second may be read instead
  pub reads_as : W → W → Type 0
  -- the framing itself refuses what is asked, by this reply
  pub refuses : W → P → Type 0
  -- the bytes of a reply to what was wanted
  pub text : Want W E → P → List ℕ

-- What a frame wants, and what was read instead. The two ask the same, or the second may be read instead of the first.
-- They end the session alike, and each reply to them is written alike.
pub record IsMeant {W P E : Type 0} (rules : Rules W P E) (meant read : Want W E) : Type 0 where
  pub asked : (read.asked ≡ meant.asked) ⊎ rules.reads_as meant.asked read.asked
  pub ends : read.ends ≡ meant.ends
  pub text : (reply : P) → rules.text read reply ≡ rules.text meant reply

-- Both want nothing, or the second was read instead of the first.
abbrev pub AreMeant : {W P E : Type 0} → Rules W P E → Option (Want W E) → Option (Want W E) → Type 0
AreMeant rules None None = Unit {0}
AreMeant rules None (Some read) = ⊥
AreMeant rules (Some meant) None = ⊥
AreMeant rules (Some meant) (Some read) = IsMeant rules meant read

-- ---- consecutive frames

-- A frame after which the session goes on.
abbrev pub GoesOn : {W E : Type 0} → Option (Want W E) → Type 0
GoesOn None = Unit {0}
GoesOn (Some want) = want.ends ≡ None

-- The bytes start with these whole frames, one after the other, and continue with the rest. The session goes on after
-- each of them.
abbrev pub Frames : {W P E : Type 0} → Rules W P E → List ℕ → List (Option (Want W E)) → List ℕ → Type 0
Frames rules bytes [] rest = bytes ≡ rest
Frames rules bytes (frame ∷ frames) rest =
    (after : List ℕ) × rules.whole bytes frame after × GoesOn frame × Frames rules after frames rest

-- What frames ask, in order.
abbrev pub asks_of : {W E : Type 0} → List (Option (Want W E)) → List W
asks_of [] = []
asks_of (None ∷ frames) = asks_of frames
asks_of (Some want ∷ frames) = want.asked ∷ asks_of frames

-- The bytes of the replies to frames, in order.
abbrev pub bytes_of_replies : {W P E : Type 0} → Rules W P E → List (Option (Want W E)) → List P → List ℕ
bytes_of_replies rules [] replies = []
bytes_of_replies rules (None ∷ frames) replies = bytes_of_replies rules frames replies
bytes_of_replies rules (Some want ∷ frames) [] = []
bytes_of_replies rules (Some want ∷ frames) (reply ∷ replies) = rules.text want reply ++ bytes_of_replies rules frames replies

-- The framing itself refuses what these frames ask, by these replies.
abbrev pub AreRefused : {W P E : Type 0} → Rules W P E → List (Option (Want W E)) → List P → Type 0
AreRefused rules [] [] = Unit {0}
AreRefused rules [] (reply ∷ replies) = ⊥
AreRefused rules (None ∷ frames) replies = AreRefused rules frames replies
AreRefused rules (Some want ∷ frames) [] = ⊥
AreRefused rules (Some want ∷ frames) (reply ∷ replies) =
    rules.refuses want.asked reply × AreRefused rules frames replies

-- ---- what is read at the front

-- No frame is whole: the bytes are at most the start of one. This many of the held bytes aren't needed any more,
-- whatever bytes follow.
pub record ReadsMore {W P E : Type 0} (rules : Rules W P E) (holding : List ℕ → List ℕ → Type 0)
    (bytes held waiting : List ℕ) (count : ℕ) : Type 0 where
  pub within : count ≤ length held
  pub begun : rules.begun bytes
  pub holds : (more : List ℕ) → holding (drop count held ++ more) (bytes ++ more)
  pub waits : waiting ≡ []

-- The bytes start with frames that ask nothing or that the framing refuses, and this many held bytes are their end. The
-- bytes that wait to be sent are those of the replies.
pub record ReadsRefused {W P E : Type 0} (rules : Rules W P E) (holding : List ℕ → List ℕ → Type 0)
    (bytes held waiting : List ℕ) (count : ℕ) : Type 0 where
  pub within : count ≤ length held
  pub some : 0 < count
  pub frames : List (Option (Want W E))
  pub replies : List P
  pub are : Frames rules bytes frames (drop count held)
  pub refused : AreRefused rules frames replies
  pub holds : holding (drop count held) (drop count held)
  pub waits : waiting ≡ bytes_of_replies rules frames replies

-- The bytes start with a whole frame, and this many held bytes are its end. What it wants was read.
pub record ReadsWhole {W P E : Type 0} (rules : Rules W P E) (holding : List ℕ → List ℕ → Type 0)
    (bytes held waiting : List ℕ) (read : Option (Want W E)) (count : ℕ) : Type 0 where
  pub within : count ≤ length held
  pub some : GoesOn read → 0 < count
  pub meant : Option (Want W E)
  pub whole : rules.whole bytes meant (drop count held)
  pub are_meant : AreMeant rules meant read
  pub holds : holding (drop count held) (drop count held)
  pub waits : waiting ≡ []

-- What was read at the front of bytes, of which these are held.
abbrev pub ReadsFront : {W P E : Type 0} → Rules W P E → (List ℕ → List ℕ → Type 0) → List ℕ → List ℕ → List ℕ
    → Front W E → Type 0
ReadsFront rules holds waiting bytes held (Front.More count) = ReadsMore rules holds bytes held waiting count
ReadsFront rules holds waiting bytes held (Front.Refused count) = ReadsRefused rules holds bytes
    held waiting count
ReadsFront rules holds waiting bytes held (Front.Whole read count) = ReadsWhole rules holds bytes held
    waiting read count

-- ---- frames and an answerer

-- What frames ask may be put to the answerer, and so may what is read instead. Each answer to what is read instead is
-- also one to what was meant. To what the framing refuses, the answerer can give the same reply, at no moment and
-- unchanged.
pub record Fits {A W P E : Type 0} (takes : W → Type 0) (step : A → W → List ℤ → P → A → Type 0)
    (rules : Rules W P E) : Type 0 where
  pub whole : (bytes : List ℕ) (want : Want W E) (rest : List ℕ) → rules.whole bytes (Some want) rest
      → takes want.asked
  pub ends : (bytes : List ℕ) (want : Want W E) → rules.ends bytes (Some want) → takes want.asked
  pub reads : (meant read : W) → rules.reads_as meant read → takes read
  pub same : (meant read : W) (old new : A) (moments : List ℤ) (reply : P) → rules.reads_as meant read
      → step old read moments reply new → step old meant moments reply new
  pub refused : (asked : W) (who : A) (reply : P) → rules.refuses asked reply → step who asked [] reply who
