-- Consecutive frames.
use Rattle.std.proofs.Common.{◌≡◌, ℕ, List, [], ◌∷◌, ◌++◌, length, Option, None, Some, refl, sym, ap, ◌∙◌, subst, append_assoc, arith}
use Rattle.request_loop.specs.Frames.{AreRefused, Frames, GoesOn, Rules, asks_of, bytes_of_replies}
use Rattle.request_loop.specs.declared.frames.Want.{Want}

-- whole frames stay whole if more bytes follow
pub frames_more : {W P E : Type 0} (rules : Rules W P E)
    → ((bytes rest more : List ℕ) (frame : Option (Want W E)) → rules.whole bytes frame rest
    → rules.whole (bytes ++ more) frame (rest ++ more))
    → (bytes more : List ℕ) (frames : List (Option (Want W E))) (rest : List ℕ) → Frames rules bytes frames rest
    → Frames rules (bytes ++ more) frames (rest ++ more)
frames_more rules whole_on bytes more [] rest is = ap (λ (l : List ℕ). l ++ more) is
frames_more rules whole_on bytes more (frame ∷ frames) rest (after, whole, goes, others) =
    (after ++ more, whole_on bytes after more frame whole, goes, frames_more rules whole_on after more frames rest others)

pub frames_join : {W P E : Type 0} (rules : Rules W P E) (bytes mid : List ℕ) (frames more : List (Option (Want W E)))
    (rest : List ℕ) → Frames rules bytes frames mid → Frames rules mid more rest → Frames rules bytes (frames ++ more) rest
frames_join rules bytes mid [] more rest is others =
    let F : List ℕ → Type 0 = λ l. Frames rules l more rest in subst F (sym is) others
frames_join rules bytes mid (frame ∷ frames) more rest (after, whole, goes, first) others =
    (after, whole, goes, frames_join rules after mid frames more rest first others)

pub frames_one : {W P E : Type 0} (rules : Rules W P E) (bytes : List ℕ) (frame : Option (Want W E)) (rest : List ℕ)
    → rules.whole bytes frame rest → GoesOn frame → Frames rules bytes (frame ∷ []) rest
frames_one rules bytes frame rest whole goes = (rest, whole, goes, refl)

pub asks_join : {W E : Type 0} (frames more : List (Option (Want W E))) → asks_of (frames ++ more) ≡ asks_of frames ++ asks_of more
asks_join [] more = refl
asks_join (None ∷ frames) more = asks_join frames more
asks_join {W} (Some want ∷ frames) more = ap (λ (l : List W). want.asked ∷ l) (asks_join frames more)

-- the texts of the replies to frames, followed by those to more frames
pub texts_join : {W P E : Type 0} (rules : Rules W P E) (frames more : List (Option (Want W E))) (replies others : List P)
    → length replies ≡ length (asks_of frames)
    → bytes_of_replies rules (frames ++ more) (replies ++ others) ≡ bytes_of_replies rules frames replies ++ bytes_of_replies rules more others
texts_join rules [] more [] others same = refl
texts_join rules [] more (reply ∷ replies) others same = absurd (omega (arith, same))
texts_join rules (None ∷ frames) more replies others same = texts_join rules frames more replies others same
texts_join rules (Some want ∷ frames) more [] others same = absurd (omega (arith, same))
texts_join rules (Some want ∷ frames) more (reply ∷ replies) others same =
    let rest : length replies ≡ length (asks_of frames) = omega (arith, same) in
    ap (λ (bytes : List ℕ). rules.text want reply ++ bytes) (texts_join rules frames more replies others rest)
    ∙ sym (append_assoc (rules.text want reply) (bytes_of_replies rules frames replies) (bytes_of_replies rules more others))

-- ---- frames that the framing refuses

pub refused_join : {W P E : Type 0} (rules : Rules W P E) (frames more : List (Option (Want W E))) (replies others : List P)
    → AreRefused rules frames replies → AreRefused rules more others
    → AreRefused rules (frames ++ more) (replies ++ others)
refused_join rules [] more [] others first second = second
refused_join rules [] more (reply ∷ replies) others first second = absurd first
refused_join rules (None ∷ frames) more replies others first second =
    refused_join rules frames more replies others first second
refused_join rules (Some want ∷ frames) more [] others first second = absurd first
refused_join rules (Some want ∷ frames) more (reply ∷ replies) others first second =
    (first.0, refused_join rules frames more replies others first.1 second)

-- each frame that asks something has its reply
pub refused_length : {W P E : Type 0} (rules : Rules W P E) (frames : List (Option (Want W E))) (replies : List P)
    → AreRefused rules frames replies → length replies ≡ length (asks_of frames)
refused_length rules [] [] are = refl
refused_length rules [] (reply ∷ replies) are = absurd are
refused_length rules (None ∷ frames) replies are = refused_length rules frames replies are
refused_length rules (Some want ∷ frames) [] are = absurd are
refused_length rules (Some want ∷ frames) (reply ∷ replies) are =
    let rest : length replies ≡ length (asks_of frames) = refused_length rules frames replies are.1 in omega (arith, rest)

-- so their texts can be appended
pub refused_texts : {W P E : Type 0} (rules : Rules W P E) (frames more : List (Option (Want W E))) (replies others : List P)
    → AreRefused rules frames replies
    → bytes_of_replies rules (frames ++ more) (replies ++ others) ≡ bytes_of_replies rules frames replies ++ bytes_of_replies rules more others
refused_texts rules frames more replies others are =
    texts_join rules frames more replies others (refused_length rules frames replies are)
