-- What is read at the front of an input of lines.
use Rattle.std.proofs.Common.{◌≡◌, ◌<◌, ◌≤◌, ◌+◌, ℕ, List, [], ◌∷◌, ◌++◌, length, take, drop, Bool, true, false, cond, ltb, None, Some, inl, inr, refl, sym, ap, ◌∙◌, subst, append_assoc, arith, length-append}
use Rattle.std.proofs.lemmas.Bool.Decides.{nat_tests}
use Rattle.register_words.specs.Readings.{MayWantMemory}
use Rattle.register_words.specs.declared.reply.Refusal.TheVariants.{NoMemory, TooLong}
use Rattle.register_words.specs.declared.reply.Reply.{Reply}
use Rattle.register_words.specs.declared.request.Asked.{Asked}
use Rattle.register_words.specs.declared.request.Asked.TheVariants.{Ask, Refuse}
use Rattle.register_words.specs.declared.request.Request.TheVariants as requests
use Rattle.request_loop.specs.Frames.{AreMeant, IsMeant, ReadsWhole}
use Rattle.request_loop.specs.declared.frames.Want.{Want}
use Rattle.line_reading.specs.Limits.{line_limit}
use Rattle.line_reading.specs.Lines.{HasNoEnd, IsCutAtEnd, Line, line_of}
use Rattle.line_reading.specs.LineFrames.{HoldsLines, IsLine, IsReadOf, line_rules, want_for, want_of_line}
use Rattle.line_reading.specs.Replies.{asks_file, reply_bytes, reply_text}
use Rattle.line_reading.specs.Requests.{asked_when_cut, cut_at_space, line_asks}
use Rattle.line_reading.specs.declared.framing.NoEnd.{NoEnd}
use Rattle.line_reading.proofs.LineLemmas.{HasNoEnd-append, HasNoEnd-nil, length-line_of}
use Rattle.line_reading.proofs.Lined.{Frame, wants_asked}

-- ---- what is meant

meant_same : (want : Want Asked NoEnd) → IsMeant line_rules want want
meant_same want = record { asked = inl refl; ends = refl; text = λ reply. refl }

same_meant : (frame : Frame) → AreMeant line_rules frame frame
same_meant None = tt
same_meant (Some want) = meant_same want

no_file : (what : Asked) → MayWantMemory what → asks_file what ≡ false
no_file (Refuse refusal) wants = absurd wants
no_file (Ask (requests.Accredit issuer)) wants = absurd wants
no_file (Ask (requests.Upload call)) wants = refl
no_file (Ask (requests.Kept issuer number)) wants = absurd wants
no_file (Ask (requests.Publish number)) wants = absurd wants
no_file (Ask (requests.Show lei)) wants = absurd wants
no_file (Ask (requests.Copy sheet form)) wants = absurd wants
no_file (Ask (requests.Delta base sheet form)) wants = absurd wants
no_file (Ask requests.Status) wants = absurd wants

-- the reply is written in the same way if memory ran out while the line was read
pub text_same : (what : Asked) (reply : Reply) → MayWantMemory what
    → reply_text (Refuse NoMemory) reply ≡ reply_text what reply
text_same what reply wants = ap (reply_bytes reply) (sym (no_file what wants))

memory_meant : (what : Asked) → MayWantMemory what → IsMeant line_rules (want_for what) (want_for (Refuse NoMemory))
memory_meant what wants = record { asked = inr (wants, refl); ends = refl; text = λ reply. text_same what reply wants }

pub are_meant : (line : Line) (frame : Frame) → IsReadOf line frame → AreMeant line_rules (want_of_line line) frame
are_meant line frame (inl same) = let M : Frame → Type 0 = λ read. AreMeant line_rules (want_of_line line) read in
    subst M (sym same) (same_meant (want_of_line line))
are_meant line frame (inr read) =
    let M : Frame → Type 0 = λ meant. AreMeant line_rules meant (Some (want_for (Refuse NoMemory))) in
    let R : Frame → Type 0 = λ read. AreMeant line_rules (want_of_line line) read in
    subst R (sym read.2) (subst M (sym (wants_asked line read.0)) (memory_meant (line_asks line) read.1))

-- ---- a line is whole

-- of the bytes after the line, all are held and none was searched
pub holds_rest : (rest : List ℕ) → HoldsLines false 0 rest rest
holds_rest rest = (refl, omega arith, HasNoEnd-nil)

pub reads_line : (skips : Bool) (held bytes waiting : List ℕ) (seen searched end : ℕ) (line : Line) (frame : Frame)
    → skips ≡ false → HoldsLines skips seen held bytes → waiting ≡ [] → end < length held → (seen ≤ length held → searched ≡ seen)
    → (HasNoEnd (take searched held) → IsCutAtEnd held (take end held) (drop (end + 1) held)) → line ≡ line_of (take end held)
    → IsReadOf line frame → ReadsWhole line_rules (HoldsLines skips 0) bytes held waiting frame (end + 1)
reads_line true held bytes waiting seen searched end line frame is holds waits within same ends line_is read = cc
reads_line false held bytes waiting seen searched end line frame is holds waits within same ends line_is read =
    let N : ℕ → Type 0 = λ n. HasNoEnd (take n held) in
    let unseen : HasNoEnd (take searched held) = subst N (sym (same holds.1)) holds.2 in
    let rest = drop (end + 1) held in
    let W : List ℕ → Type 0 = λ xs. IsLine xs (want_of_line line) rest in
    record {
      within = omega (arith, within);
      some = λ _. omega arith;
      meant = want_of_line line;
      whole = subst W holds.0 (take end held, ends unseen, ap want_of_line line_is);
      are_meant = are_meant line frame read;
      holds = holds_rest rest;
      waits = waits;
    }

-- ---- lines that are too long

too_long : (line : Line) → line_limit < length line → line_asks line ≡ Refuse TooLong
unfolding line_asks
too_long line long =
    let is : ltb line_limit (length line) ≡ true = grind (arith, nat_tests) in
    ap (λ b. cond b (Refuse TooLong) (asked_when_cut line (cut_at_space line))) is

pub long_wants : (line : Line) → line_limit < length line → want_of_line line ≡ Some (want_for (Refuse TooLong))
long_wants line long = wants_asked line (omega (arith, long)) ∙ ap (λ what. Some (want_for what)) (too_long line long)

-- the last line, whose first bytes were dropped
pub long_last : (skips : Bool) (seen : ℕ) (held bytes : List ℕ) (want : Want Asked NoEnd) → skips ≡ true
    → want ≡ want_for (Refuse TooLong) → HoldsLines skips seen held bytes → IsReadOf bytes (Some want)
long_last true seen held bytes want is refused (dropped, parts, none, long) =
    let size : line_limit < length bytes = omega (arith, ap length parts, length-append dropped held, long) in
    inl (ap Some refused ∙ sym (long_wants bytes size))
long_last false seen held bytes want is refused holds = cc

-- the end of a line that is too long
pub long_ends : (seen : ℕ) (held bytes waiting : List ℕ) (end : ℕ) (want : Want Asked NoEnd) → HoldsLines true seen held bytes
    → IsCutAtEnd held (take end held) (drop (end + 1) held) → end < length held → want ≡ want_for (Refuse TooLong) → waiting ≡ []
    → ReadsWhole line_rules (HoldsLines false 0) bytes held waiting (Some want) (end + 1)
long_ends seen held bytes waiting end want (dropped, parts, none, long) ends within refused waits =
    let rest = drop (end + 1) held in
    let part = dropped ++ take end held in
    let size : line_limit < length (line_of part) = omega
    (arith, length-line_of part, length-append dropped (take end held), long) in
    let cut_there : bytes ≡ (part ++ 10 ∷ []) ++ rest =
    parts ∙ (ap (λ xs. dropped ++ xs) ends.parts
    ∙ (sym (append_assoc dropped (take end held ++ 10 ∷ []) rest)
    ∙ ap (λ xs. xs ++ rest) (sym (append_assoc dropped (take end held) (10 ∷ []))))) in
    record {
      within = omega (arith, within);
      some = λ _. omega arith;
      meant = Some want;
      whole = (
        part,
        record { parts = cut_there; none = HasNoEnd-append dropped (take end held) none ends.none },
        ap Some refused ∙ sym (long_wants (line_of part) size),
      );
      are_meant = meant_same want;
      holds = holds_rest rest;
      waits = waits;
    }
