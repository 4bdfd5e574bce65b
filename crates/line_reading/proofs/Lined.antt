-- Consecutive frames of lines.
use Rattle.std.proofs.Common.{◌≡◌, ◌<◌, ◌≤◌, ◌+◌, ℕ, List, [], ◌∷◌, ◌++◌, length, take, drop, Bool, true, false, cond, eqb, Option, None, Some, inl, inr, refl, sym, ap, ◌∙◌, subst, arith, length-drop}
use Rattle.std.proofs.lemmas.Bool.Decides.{nat_tests}
use Rattle.std.proofs.lemmas.List.{append-nil, drop-drop}
use Rattle.register_words.specs.declared.reply.Reply.{Reply}
use Rattle.register_words.specs.declared.reply.Reply.TheVariants.{Words}
use Rattle.register_words.specs.declared.request.Asked.{Asked}
use Rattle.register_words.specs.declared.request.Asked.TheVariants.{Refuse}
use Rattle.request_loop.specs.Frames.{AreRefused, GoesOn, bytes_of_replies}
use Rattle.request_loop.proofs.FrameLists.{frames_join, frames_one, refused_join, refused_texts}
use Rattle.request_loop.specs.declared.frames.Want.{Want}
use Rattle.line_reading.specs.Lines.{IsCutAtEnd, Line, line_of}
use Rattle.line_reading.specs.LineFrames.{GathersRefused, IsLine, TakesLine, line_rules, want_for, want_of_line}
use Rattle.line_reading.specs.Replies.{reply_bytes}
use Rattle.line_reading.specs.Requests.{line_asks}
use Rattle.line_reading.specs.declared.framing.NoEnd.{NoEnd}
use Rattle.line_reading.proofs.Asking.{reports_no_fault}

abbrev pub Frame : Type 0
Frame = Option (Want Asked NoEnd)

-- ---- what one line wants

pub wants_nothing : (line : Line) → length line ≡ 0 → want_of_line line ≡ None
wants_nothing line none =
    let is : eqb (length line) 0 ≡ true = grind (arith, nat_tests) in
    ap (λ (b : Bool). cond b None (Some (want_for (line_asks line)))) is

pub wants_asked : (line : Line) → 0 < length line → want_of_line line ≡ Some (want_for (line_asks line))
wants_asked line some =
    let is : eqb (length line) 0 ≡ false = grind (arith, nat_tests) in
    ap (λ (b : Bool). cond b None (Some (want_for (line_asks line)))) is

goes_with : (is_empty : Bool) (what : Asked) → GoesOn (cond is_empty None (Some (want_for what)))
goes_with true what = tt
goes_with false what = refl

pub goes_on : (line : Line) → GoesOn (want_of_line line)
goes_on line = goes_with (eqb (length line) 0) (line_asks line)

-- ---- lines that are refused

pub gathers_nothing : (bytes texts : List ℕ) → texts ≡ [] → GathersRefused bytes bytes texts
gathers_nothing bytes texts none =
    record { frames = []; replies = []; are = refl; refused = tt; texts_are = none }

-- one more line, by what it wants
gathers_one : (bytes mid rest texts texts_now : List ℕ) (frame : Frame) (replies : List Reply) → GathersRefused bytes mid texts
    → IsLine mid frame rest → GoesOn frame → AreRefused line_rules (frame ∷ []) replies
    → texts_now ≡ texts ++ bytes_of_replies line_rules (frame ∷ []) replies → GathersRefused bytes rest texts_now
gathers_one bytes mid rest texts texts_now frame replies before is goes refused more =
    let all = bytes_of_replies line_rules before.frames before.replies in
    record {
      frames = before.frames ++ frame ∷ [];
      replies = before.replies ++ replies;
      are = frames_join line_rules bytes mid before.frames (frame ∷ []) rest before.are
          (frames_one line_rules mid frame rest is goes);
      refused = refused_join line_rules before.frames (frame ∷ []) before.replies replies before.refused refused;
      texts_are = more ∙ (ap (λ xs. xs ++ bytes_of_replies line_rules (frame ∷ []) replies) before.texts_are
          ∙ sym (refused_texts line_rules before.frames (frame ∷ []) before.replies replies before.refused));
    }

pub gathers_line : (bytes mid part rest texts texts_now : List ℕ) → GathersRefused bytes mid texts → IsCutAtEnd mid part rest
    → TakesLine (line_of part) texts texts_now → GathersRefused bytes rest texts_now
gathers_line bytes mid part rest texts texts_now before ends (inl taken) =
    gathers_one bytes mid rest texts texts_now None [] before (part, ends, sym (wants_nothing (line_of part) taken.0)) tt tt
    (taken.1 ∙ sym (append-nil texts))
gathers_line bytes mid part rest texts texts_now before ends (inr taken) =
    let line = line_of part in
    let refusal = taken.1 in
    let frame : Frame = Some (want_for (Refuse refusal)) in
    let text = reply_bytes (Words refusal) false in
    let is : frame ≡ want_of_line line = ap (λ what. Some (want_for what)) (sym taken.2) ∙ sym (wants_asked line taken.0) in
    gathers_one bytes mid rest texts texts_now frame (Words refusal ∷ []) before (part, ends, is) refl
    ((refl, reports_no_fault line refusal taken.2), tt) (taken.3 ∙ ap (λ xs. texts ++ xs) (sym (append-nil text)))

-- the next line of a block
pub gathers_next : (block rest texts texts_now : List ℕ) (used end : ℕ) (line : Line) → rest ≡ drop used block
    → GathersRefused block (drop used block) texts → IsCutAtEnd rest (take end rest) (drop (end + 1) rest)
    → line ≡ line_of (take end rest) → TakesLine line texts texts_now
    → GathersRefused block (drop (used + (end + 1)) block) texts_now
gathers_next block rest texts texts_now used end line is before ends line_is taken =
    let T : Line → Type 0 = λ xs. TakesLine xs texts texts_now in
    let G : List ℕ → Type 0 = λ xs. GathersRefused block xs texts in
    let N : List ℕ → Type 0 = λ xs. GathersRefused block xs texts_now in
    let after : drop (end + 1) rest ≡ drop (used + (end + 1)) block = ap (drop (end + 1)) is ∙ drop-drop (end + 1) used block in
    subst N after (gathers_line block rest (take end rest) (drop (end + 1) rest) texts texts_now (subst G (sym is) before) ends
    (subst T line_is taken))

-- the next line is within the block
pub next_within : (block rest : List ℕ) (used end : ℕ) → rest ≡ drop used block → used ≤ length block → end < length rest
    → used + (end + 1) ≤ length block
next_within block rest used end is within some = omega (arith, ap length is, length-drop used block, within, some)
