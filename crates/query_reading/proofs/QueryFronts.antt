-- What is read at the front of an input of queries.
use Rattle.std.proofs.Common.{◌≡◌, ◌⊎◌, ◌<◌, ◌≤◌, ◌+◌, ◌-◌, ℕ, suc, List, [], ◌∷◌, ◌++◌, length, take, drop, Bool, true, false, cond, eqb, ltb, Option, None, Some, option_map, inl, inr, refl, sym, ap, ◌∙◌, subst, append_assoc, arith, length-append, take-append-drop}
use Rattle.std.proofs.lemmas.Bool.Decides.{eqb_tells, nat_tests}
use Rattle.std.proofs.lemmas.List.{length-take-le}
use Rattle.std.proofs.lemmas.List.Elements.{All-cons}
use Rattle.request_loop.specs.Frames.{AreMeant, IsMeant, ReadsMore, ReadsWhole}
use Rattle.request_loop.specs.declared.frames.Want.{Want}
use Rattle.line_reading.specs.Lines.{HasNoEnd, IsCutAtEnd, Line, line_of}
use Rattle.line_reading.specs.declared.framing.NoEnd.{NoEnd}
use Rattle.line_reading.proofs.LineLemmas.{HasNoEnd-append, HasNoEnd-nil, length-line_of}
use Rattle.query_reading.specs.Meanings.{IsMeaning, IsWholeQuery, asked_at_end, asked_with, line_says, packet_size, query_limit}
use Rattle.query_reading.specs.QueryFrames.{EndsAsked, EndsInput, HoldsQuery, IsReadAs, TakesMemory, query_rules, query_want}
use Rattle.query_reading.specs.declared.asked.QueryAsked.{QueryAsked}
use Rattle.query_reading.specs.declared.grammar.LineMeaning.{LineMeaning}
use Rattle.query_reading.specs.declared.refusal.QueryRefusal.{QueryRefusal}
use Rattle.query_reading.specs.declared.refusal.QueryRefusal.TheVariants.{NoMemory, TooLong, Truncated}
use Rattle.query_reading.specs.declared.stage.FrameStage.{FrameStage}

abbrev pub Grammars : Type 0 → Type 0 → Type 0
Grammars Q H = Line → LineMeaning Q H

-- ---- what is meant

meant_same : {Q H : Type 0} (says : Grammars Q H) (meant : Option (QueryAsked Q H))
    → AreMeant (query_rules says) (option_map query_want meant) (option_map query_want meant)
meant_same says None = tt
meant_same says (Some asked) = record { asked = inl refl; ends = refl; text = λ reply. refl }

memory_meant : {Q H : Type 0} (says : Grammars Q H) (asked : QueryAsked Q H) → TakesMemory asked
    → IsMeant (query_rules says) (query_want asked) (query_want (QueryAsked.Refuse NoMemory))
memory_meant says asked takes = record { asked = inr (takes, refl); ends = refl; text = λ reply. refl }

are_meant : {Q H : Type 0} (says : Grammars Q H) (meant read : Option (QueryAsked Q H)) → IsReadAs meant read
    → AreMeant (query_rules says) (option_map query_want meant) (option_map query_want read)
are_meant {Q} {H} says meant read (inl same) =
    let M : Option (QueryAsked Q H) → Type 0 = λ r. AreMeant (query_rules says) (option_map query_want meant)
    (option_map query_want r) in
    subst M (sym same) (meant_same says meant)
are_meant {Q} {H} says meant read (inr (asked, is, takes, refused)) =
    let M : Option (QueryAsked Q H) → Type 0 = λ m. AreMeant (query_rules says) (option_map query_want m)
    (Some (query_want (QueryAsked.Refuse NoMemory))) in
    let R : Option (QueryAsked Q H) → Type 0 = λ r. AreMeant (query_rules says) (option_map query_want meant)
    (option_map query_want r) in
    subst R (sym refused) (subst M (sym is) (memory_meant says asked takes))

-- ---- a frame is complete

-- nothing is held of what follows it
holds_rest : {Q H : Type 0} (says : Grammars Q H) (rest : List ℕ) → HoldsQuery says (FrameStage.Line 0) rest rest
holds_rest says rest = (refl, omega arith, HasNoEnd-nil)

pub reads_frame : {Q H : Type 0} (says : Grammars Q H) (bytes held part packet : List ℕ) (count : ℕ)
    (meant read : Option (QueryAsked Q H)) → count ≤ length held → 0 < count
    → IsCutAtEnd bytes part (packet ++ drop count held) → length packet ≡ packet_size (line_says says (line_of part))
    → asked_with (line_says says (line_of part)) packet ≡ meant → IsReadAs meant read
    → ReadsWhole (query_rules says) (HoldsQuery says (FrameStage.Line 0)) bytes held [] (option_map query_want read) count
reads_frame says bytes held part packet count meant read within some ends size is reads = record {
  within = within;
  some = λ _. some;
  meant = option_map query_want meant;
  whole = record { part = part; packet = packet; ends = ends; size = size; frame_is = ap (option_map query_want) (sym is) };
  are_meant = are_meant says meant read reads;
  holds = holds_rest says (drop count held);
  waits = refl;
}

-- ---- what lines say

pub says_nothing : {Q H : Type 0} (says : Grammars Q H) (line : Line) → length line ≡ 0 → line_says says line ≡ None
says_nothing {Q} {H} says line none =
    let is : eqb (length line) 0 ≡ true = grind (arith, nat_tests) in
    let other : Option (LineMeaning Q H) = cond (ltb query_limit (length line)) (Some (LineMeaning.Refused TooLong))
    (Some (says line)) in
    ap (λ (b : Bool). cond b None other) is

says_some : {Q H : Type 0} (says : Grammars Q H) (line : Line) → 0 < length line
    → line_says says line ≡ cond (ltb query_limit (length line)) (Some (LineMeaning.Refused TooLong)) (Some (says line))
says_some {Q} {H} says line some =
    let is : eqb (length line) 0 ≡ false = grind (arith, nat_tests) in
    let other : Option (LineMeaning Q H) = cond (ltb query_limit (length line)) (Some (LineMeaning.Refused TooLong))
    (Some (says line)) in
    ap (λ (b : Bool). cond b None other) is

pub says_too_long : {Q H : Type 0} (says : Grammars Q H) (line : Line) → query_limit < length line
    → line_says says line ≡ Some (LineMeaning.Refused TooLong)
says_too_long {Q} {H} says line long =
    let is : ltb query_limit (length line) ≡ true = grind (arith, nat_tests) in
    let refused : Option (LineMeaning Q H) = Some (LineMeaning.Refused TooLong) in
    says_some says line (omega (arith, long)) ∙ ap (λ (b : Bool). cond b refused (Some (says line))) is

pub says_so : {Q H : Type 0} (says : Grammars Q H) (line : Line) → 0 < length line → length line ≤ query_limit
    → line_says says line ≡ Some (says line)
says_so {Q} {H} says line some short =
    let is : ltb query_limit (length line) ≡ false = grind (arith, nat_tests) in
    let refused : Option (LineMeaning Q H) = Some (LineMeaning.Refused TooLong) in
    says_some says line some ∙ ap (λ (b : Bool). cond b refused (Some (says line))) is

-- ---- a line whose frame has no packet

-- a frame that is read as it is
pub line_frame : {Q H : Type 0} (says : Grammars Q H) (held : List ℕ) (end : ℕ) (meaning : Option (LineMeaning Q H))
    (meant read : Option (QueryAsked Q H)) → end < length held → IsCutAtEnd held (take end held) (drop (end + 1) held)
    → line_says says (line_of (take end held)) ≡ meaning → packet_size meaning ≡ 0 → asked_with meaning [] ≡ meant
    → IsReadAs meant read
    → ReadsWhole (query_rules says) (HoldsQuery says (FrameStage.Line 0)) held held []
    (option_map query_want read) (end + 1)
line_frame says held end meaning meant read within ends is none asked reads =
    reads_frame says held held (take end held) [] (end + 1) meant read (omega (arith, within)) (omega arith) ends
    (sym (ap packet_size is ∙ none)) (ap (λ m. asked_with m []) is ∙ asked) reads

pub refused_frame : {Q H : Type 0} (says : Grammars Q H) (held : List ℕ) (end : ℕ) (read : Option (LineMeaning Q H))
    (refusal : QueryRefusal) (want : Want (QueryAsked Q H) NoEnd) → end < length held
    → IsCutAtEnd held (take end held) (drop (end + 1) held) → IsMeaning says (line_of (take end held)) read
    → read ≡ Some (LineMeaning.Refused refusal) → want ≡ query_want (QueryAsked.Refuse refusal)
    → ReadsWhole (query_rules says) (HoldsQuery says (FrameStage.Line 0)) held held [] (Some want) (end + 1)
refused_frame {Q} {H} says held end read refusal want within ends (inl same) is wants =
    let W : Want (QueryAsked Q H) NoEnd → Type 0 = λ w. ReadsWhole (query_rules says) (HoldsQuery says
    (FrameStage.Line 0)) held held
    [] (Some w) (end + 1) in
    let asked : Option (QueryAsked Q H) = Some (QueryAsked.Refuse refusal) in
    subst W (sym wants)
    (line_frame says held end (Some (LineMeaning.Refused refusal)) asked asked within ends (sym same
    ∙ is) refl refl (inl refl))
refused_frame {Q} {H} says held end read refusal want within ends (inr (some, short, whole, none)) is wants =
    let W : Want (QueryAsked Q H) NoEnd → Type 0 = λ w. ReadsWhole (query_rules says) (HoldsQuery says
    (FrameStage.Line 0)) held held
    [] (Some w) (end + 1) in
    let line = line_of (take end held) in
    let which : NoMemory ≡ refusal = ap refusal_in (sym none ∙ is) in
    subst W (ap (λ r. query_want (QueryAsked.Refuse r)) which ∙ sym wants)
    (memory_frame says held end (says line) within ends (says_so says line some short) whole)
  where
    refusal_in : {Q H : Type 0} → Option (LineMeaning Q H) → QueryRefusal
    refusal_in None = NoMemory
    refusal_in (Some (LineMeaning.Refused refusal)) = refusal
    refusal_in (Some (LineMeaning.Query query)) = NoMemory
    refusal_in (Some (LineMeaning.Packet head size)) = NoMemory
    refusal_in (Some (LineMeaning.Skipped refusal size)) = NoMemory

    memory_frame : {Q H : Type 0} (says : Grammars Q H) (held : List ℕ) (end : ℕ) (meaning : LineMeaning Q H)
        → end < length held → IsCutAtEnd held (take end held) (drop (end + 1) held)
        → line_says says (line_of (take end held)) ≡ Some meaning → IsWholeQuery meaning
        → ReadsWhole (query_rules says) (HoldsQuery says (FrameStage.Line 0)) held held []
        (Some (query_want (QueryAsked.Refuse NoMemory))) (end + 1)
    memory_frame says held end (LineMeaning.Refused refusal) within ends is whole = absurd whole
    memory_frame says held end (LineMeaning.Query query) within ends is whole =
        line_frame says held end (Some (LineMeaning.Query query)) (Some (QueryAsked.Query query))
        (Some (QueryAsked.Refuse NoMemory)) within ends is refl refl (inr (QueryAsked.Query query, refl, tt, refl))
    memory_frame says held end (LineMeaning.Packet head size) within ends is whole = absurd whole
    memory_frame says held end (LineMeaning.Skipped refusal size) within ends is whole = absurd whole

pub query_frame : {Q H : Type 0} (says : Grammars Q H) (held : List ℕ) (end : ℕ) (read : Option (LineMeaning Q H))
    (query : Q) (want : Want (QueryAsked Q H) NoEnd) → end < length held
    → IsCutAtEnd held (take end held) (drop (end + 1) held) → IsMeaning says (line_of (take end held)) read
    → read ≡ Some (LineMeaning.Query query) → want ≡ query_want (QueryAsked.Query query)
    → ReadsWhole (query_rules says) (HoldsQuery says (FrameStage.Line 0)) held held [] (Some want) (end + 1)
query_frame {Q} {H} says held end read query want within ends (inl same) is wants =
    let W : Want (QueryAsked Q H) NoEnd → Type 0 = λ w. ReadsWhole (query_rules says) (HoldsQuery says
    (FrameStage.Line 0)) held held
    [] (Some w) (end + 1) in
    let asked : Option (QueryAsked Q H) = Some (QueryAsked.Query query) in
    subst W (sym wants)
    (line_frame says held end (Some (LineMeaning.Query query)) asked asked within ends (sym same
    ∙ is) refl refl (inl refl))
query_frame says held end read query want within ends (inr (some, short, whole, none)) is wants = cc

-- ---- packets

-- a packet that is held was read
pub packet_frame : {Q H : Type 0} (says : Grammars Q H) (bytes held part after : List ℕ) (count size : ℕ) (head : H)
    (asked : QueryAsked Q H) (want : Want (QueryAsked Q H) NoEnd) → count ≤ length held → 0 < count
    → IsCutAtEnd bytes part after
    → line_says says (line_of part) ≡ Some (LineMeaning.Packet head size) → size ≤ length after
    → drop size after ≡ drop count held
    → (asked ≡ QueryAsked.Packet head (take size after)) ⊎ (asked ≡ QueryAsked.Refuse NoMemory) → want ≡ query_want asked
    → ReadsWhole (query_rules says) (HoldsQuery says (FrameStage.Line 0)) bytes held [] (Some want) count
packet_frame {Q} {H} says bytes held part after count size head asked want within some ends is whole rest read wants =
    let W : Want (QueryAsked Q H) NoEnd → Type 0 = λ w. ReadsWhole (query_rules says) (HoldsQuery says
    (FrameStage.Line 0)) bytes held
    [] (Some w) count in
    let packet = take size after in
    let E : List ℕ → Type 0 = λ xs. IsCutAtEnd bytes part xs in
    let parts : after ≡ packet ++ drop count held = sym (take-append-drop size after) ∙ ap (λ xs. packet ++ xs) rest in
    subst W (sym wants)
    (reads_frame says bytes held part packet count (Some (QueryAsked.Packet head packet)) (Some asked) within some
    (subst E parts ends) (length-take-le size after whole ∙ sym (ap packet_size is)) (ap (λ m. asked_with m packet) is)
    (reads_so head packet asked read))
  where
    reads_so : {Q H : Type 0} (head : H) (packet : List ℕ) (asked : QueryAsked Q H)
        → (asked ≡ QueryAsked.Packet head packet) ⊎ (asked ≡ QueryAsked.Refuse NoMemory)
        → IsReadAs (Some (QueryAsked.Packet head packet)) (Some asked)
    reads_so head packet asked (inl same) = inl (ap Some same)
    reads_so head packet asked (inr none) = inr (QueryAsked.Packet head packet, refl, tt, ap Some none)

-- a packet was skipped to its end
pub skipped_frame : {Q H : Type 0} (says : Grammars Q H) (bytes held part after : List ℕ) (count size : ℕ)
    (refusal : QueryRefusal) (want : Want (QueryAsked Q H) NoEnd) → count ≤ length held → 0 < count
    → IsCutAtEnd bytes part after
    → line_says says (line_of part) ≡ Some (LineMeaning.Skipped refusal size) → size ≤ length after
    → drop size after ≡ drop count held → want ≡ query_want (QueryAsked.Refuse refusal)
    → ReadsWhole (query_rules says) (HoldsQuery says (FrameStage.Line 0)) bytes held [] (Some want) count
skipped_frame {Q} {H} says bytes held part after count size refusal want within some ends is whole rest wants =
    let W : Want (QueryAsked Q H) NoEnd → Type 0 = λ w. ReadsWhole (query_rules says) (HoldsQuery says
    (FrameStage.Line 0)) bytes held
    [] (Some w) count in
    let packet = take size after in
    let E : List ℕ → Type 0 = λ xs. IsCutAtEnd bytes part xs in
    let asked : Option (QueryAsked Q H) = Some (QueryAsked.Refuse refusal) in
    let parts : after ≡ packet ++ drop count held = sym (take-append-drop size after) ∙ ap (λ xs. packet ++ xs) rest in
    subst W (sym wants)
    (reads_frame says bytes held part packet count asked asked within some
    (subst E parts ends) (length-take-le size after whole ∙ sym (ap packet_size is)) (ap (λ m. asked_with m packet) is)
    (inl refl))

-- what is dropped from bytes after those that were dropped before
pub drop-after : (xs ys : List ℕ) (n : ℕ) → drop (length xs + n) (xs ++ ys) ≡ drop n ys
drop-after [] ys n = let none : length {A = ℕ} [] + n ≡ n = omega arith in ap (λ k. drop k ys) none
drop-after (x ∷ xs) ys n =
    let more : length (x ∷ xs) + n ≡ suc (length xs + n) = omega arith in
    ap (λ k. drop k (x ∷ (xs ++ ys))) more ∙ drop-after xs ys n

-- of a packet that is skipped, all that is held was dropped
pub skips_on : {Q H : Type 0} (says : Grammars Q H) (bytes held : List ℕ) (refusal : QueryRefusal) (left : ℕ)
    → length held < left → HoldsQuery says (FrameStage.Skipped refusal left) held bytes
    → ReadsMore (query_rules says) (HoldsQuery says (FrameStage.Skipped refusal
    (left - length held))) bytes held [] (length held)
skips_on {Q} {H} says bytes held refusal left short (part, dropped, ends, is, some) =
    let M : ℕ → Type 0 = λ n. line_says says (line_of part) ≡ Some (LineMeaning.Skipped refusal n) in
    let size : length (dropped ++ held) + (left - length held) ≡ length dropped + left = omega
    (arith, length-append dropped held, short) in
    let none : drop (length held) held ≡ [] = drop-all held in
    record {
      within = omega arith;
      begun = inr (record {
        part = part;
        after = dropped ++ held;
        ends = ends;
        short = subst (λ n. length (dropped ++ held) < n) (sym (ap packet_size is))
            (omega (arith, length-append dropped held, short));
      });
      holds = λ more. (
        part,
        dropped ++ held,
        record {
          parts = ap (λ xs. xs ++ more) ends.parts
              ∙ (append_assoc (part ++ 10 ∷ []) (dropped ++ held) more
              ∙ ap (λ xs. (part ++ 10 ∷ []) ++ ((dropped ++ held) ++ (xs ++ more))) (sym none));
          none = ends.none;
        },
        subst M (sym size) is,
        omega (arith, short),
      );
      waits = refl;
    }
  where
    drop-all : (xs : List ℕ) → drop (length xs) xs ≡ []
    drop-all [] = refl
    drop-all (x ∷ xs) = drop-all xs

-- ---- lines that are too long

-- every list of bytes has a line end, or none
abbrev Parted : List ℕ → Type 0
Parted bytes = HasNoEnd bytes ⊎ ((part : List ℕ) × (after : List ℕ) × IsCutAtEnd bytes part after)

parted : (bytes : List ℕ) → Parted bytes
parted [] = inl HasNoEnd-nil
parted (byte ∷ bytes) = elim (eqb_tells byte 10) [
  | inl is ↦ inr ([], bytes, record { parts = ap (λ x. x ∷ bytes) is.1; none = HasNoEnd-nil })
  | inr is ↦ more byte bytes is.1 (parted bytes)
] where
  more : (byte : ℕ) (bytes : List ℕ) → (byte ≡ 10 → ⊥) → Parted bytes → Parted (byte ∷ bytes)
  more byte bytes other (inl none) = inl (All-cons (λ x. (x ≡ 10 → ⊥)) byte bytes other none)
  more byte bytes other (inr (part, after, ends)) = inr (
    byte ∷ part,
    after,
    record {
      parts = ap (λ xs. byte ∷ xs) ends.parts;
      none = All-cons (λ x. (x ≡ 10 → ⊥)) byte part other ends.none;
    },
  )

-- the line continues to its own end
ends_after : (bytes dropped held part after : List ℕ) → bytes ≡ dropped ++ held → HasNoEnd dropped
    → IsCutAtEnd held part after
    → IsCutAtEnd bytes (dropped ++ part) after
ends_after bytes dropped held part after parts none ends = record {
  parts = parts ∙ (ap (λ xs. dropped ++ xs) ends.parts
      ∙ (sym (append_assoc dropped (part ++ 10 ∷ []) after)
      ∙ ap (λ xs. xs ++ after) (sym (append_assoc dropped part (10 ∷ [])))));
  none = HasNoEnd-append dropped part none ends.none;
}

long_line : (dropped part : List ℕ) → query_limit + 1 < length dropped
    → query_limit < length (line_of (dropped ++ part))
long_line dropped part long = omega (arith, length-line_of (dropped ++ part), length-append dropped part, long)

pub long_ends : {Q H : Type 0} (says : Grammars Q H) (bytes held : List ℕ) (end : ℕ) (want : Want
    (QueryAsked Q H) NoEnd)
    → HoldsQuery says FrameStage.LongLine held bytes → IsCutAtEnd held (take end held) (drop (end + 1) held)
    → end < length held
    → want ≡ query_want (QueryAsked.Refuse TooLong)
    → ReadsWhole (query_rules says) (HoldsQuery says (FrameStage.Line 0)) bytes held [] (Some want) (end + 1)
long_ends {Q} {H} says bytes held end want (dropped, parts, none, long) ends within wants =
    let W : Want (QueryAsked Q H) NoEnd → Type 0 = λ w. ReadsWhole (query_rules says) (HoldsQuery says
    (FrameStage.Line 0)) bytes held
    [] (Some w) (end + 1) in
    let part = dropped ++ take end held in
    let asked : Option (QueryAsked Q H) = Some (QueryAsked.Refuse TooLong) in
    let is = says_too_long says (line_of part) (long_line dropped (take end held) long) in
    subst W (sym wants)
    (reads_frame says bytes held part [] (end + 1) asked asked (omega (arith, within)) (omega arith)
    (ends_after bytes dropped held (take end held) (drop (end + 1) held) parts none ends) (sym (ap packet_size is))
    (ap (λ m. asked_with m []) is) (inl refl))

-- ---- if the input ends

long_asked : {Q H : Type 0} (says : Grammars Q H) (bytes dropped held : List ℕ) → bytes ≡ dropped ++ held
    → HasNoEnd dropped → query_limit + 1 < length dropped → Parted held
    → EndsAsked says bytes (Some (QueryAsked.Refuse TooLong))
long_asked says bytes dropped held parts none long (inl no_end) =
    let N : List ℕ → Type 0 = λ xs. HasNoEnd xs in (
      bytes,
      inl (subst N (sym parts) (HasNoEnd-append dropped held none no_end), refl),
      inl (sym (ap asked_at_end
          (says_too_long says bytes (omega (arith, ap length parts, length-append dropped held, long))))),
    )
long_asked says bytes dropped held parts none long (inr (part, after, ends)) = (
  line_of (dropped ++ part),
  inr (dropped ++ part, after, ends_after bytes dropped held part after parts none ends, refl),
  inl (sym (ap asked_at_end (says_too_long says (line_of (dropped ++ part)) (long_line dropped part long)))),
)

pub long_last : {Q H : Type 0} (says : Grammars Q H) (bytes held : List ℕ) (want : Want (QueryAsked Q H) NoEnd)
    → HoldsQuery says FrameStage.LongLine held bytes → want ≡ query_want (QueryAsked.Refuse TooLong)
    → EndsInput says bytes (Some want)
long_last says bytes held want (dropped, parts, none, long) wants =
    (Some (QueryAsked.Refuse TooLong), long_asked says bytes dropped held parts none long (parted held), ap Some wants)

pub packet_last : {Q H : Type 0} (says : Grammars Q H) (bytes held : List ℕ) (head : H) (size : ℕ)
    (want : Want (QueryAsked Q H) NoEnd) → HoldsQuery says (FrameStage.Packet head size) held bytes
    → want ≡ query_want (QueryAsked.Refuse Truncated) → EndsInput says bytes (Some want)
packet_last says bytes held head size want (part, ends, is, some) wants = (
  Some (QueryAsked.Refuse Truncated),
  (line_of part, inr (part, held, ends, refl), inl (sym (ap asked_at_end is))),
  ap Some wants,
)

pub skipped_last : {Q H : Type 0} (says : Grammars Q H) (bytes held : List ℕ) (refusal : QueryRefusal) (left : ℕ)
    (want : Want (QueryAsked Q H) NoEnd) → HoldsQuery says (FrameStage.Skipped refusal left) held bytes
    → want ≡ query_want (QueryAsked.Refuse refusal) → EndsInput says bytes (Some want)
skipped_last says bytes held refusal left want (part, dropped, ends, is, some) wants = (
  Some (QueryAsked.Refuse refusal),
  (line_of part, inr (part, dropped ++ held, ends, refl), inl (sym (ap asked_at_end is))),
  ap Some wants,
)
