-- Heads have more bytes than headers, so room for the headers of any head never runs out.
use Rattle.std.proofs.Common.{◌≡◌, ℕ, ◌*◌, ◌<◌, ◌≤◌, List, [], ◌∷◌, ◌++◌, length, All, sym, ap, subst, arith, length-append}
use Rattle.std.proofs.lemmas.List.{append-nil}
use Rattle.std.proofs.lemmas.List.Elements.{All-head, All-tail}
use Rattle.std.specs.List.{flat_map}
use Rattle.std.specs.Prelude.{Ok, Some}
use Rattle.std.proofs.lemmas.Bool.Decides.{nat_tests}
use Rattle.http_heads.specs.Heads.{head_fault}
use Rattle.register_words.specs.declared.reply.Refusal.{Refusal}
use Rattle.httparse.specs.Grammar.{Field, IsField, LineEnd, RequestHead, ReadsRequest, crlf, lf, print_blank, print_end, print_field, print_request, print_version}
use Rattle.httparse.specs.Outcome.{IfComplete}
use Rattle.httparse.specs.Spans.{IsRequestOf, RequestExceeds, RequestOverflows}
use Rattle.httparse.specs.declared.Error.{Error}
use Rattle.httparse.specs.declared.Status.{Status}
use Rattle.httparse.specs.declared.Status.TheVariants.{Complete}
use Rattle.httparse.specs.declared.spans.HeaderSpan.{HeaderSpan}
use Rattle.httparse.specs.declared.spans.RequestSpans.{RequestSpans}

-- a line end has at least one byte
end_some : (e : LineEnd) → 1 ≤ length (print_end e)
end_some crlf = omega arith
end_some lf = omega arith

-- a field has at least three bytes
field_some : (f : Field) → IsField f → 3 ≤ length (print_field f)
field_some f is = omega (arith, is.name.0, end_some f.end, length-append f.name (58 ∷ (f.raw ++ print_end f.end)), length-append f.raw (print_end f.end), length-append f.name (58 ∷ f.raw), length-append (f.name ++ 58 ∷ f.raw) (print_end f.end))

-- and so have all of them
fields_some : (fs : List Field) → All IsField fs → 3 * length fs ≤ length (flat_map print_field fs)
fields_some [] are = omega arith
fields_some (f ∷ fs) are = omega (arith, field_some f (All-head IsField f fs are), fields_some fs (All-tail IsField f fs are), length-append (print_field f) (flat_map print_field fs))

-- the fields are a part of the head
print_length : (h : RequestHead) → length (flat_map print_field h.fields) ≤ length (print_request h)
unfolding print_request
print_length h =
    let front = print_blank h.blank ++ h.method ++ 32 ∷ h.target ++ 32 ∷ print_version h.minor ++ print_end h.line_end in
    omega (
      arith,
      length-append front (flat_map print_field h.fields ++ print_end h.last),
      length-append (flat_map print_field h.fields) (print_end h.last),
    )

-- a head has three bytes for each of its headers
pub head_some : (buf : List ℕ) (h : RequestHead) (rest : List ℕ) → ReadsRequest buf h rest → 3 * length h.fields ≤ length buf
head_some buf h rest reads =
    omega (arith, ap length reads.1, fields_some h.fields reads.0.fields, print_length h, length-append (print_request h) rest)

-- room for 2,731 headers is enough for 8,192 bytes
pub roomy : (front : List ℕ) → length front ≤ 8192 → RequestExceeds 2731 front → ⊥
roomy front few exceeds =
    omega (
      arith,
      few,
      ap length exceeds.2,
      length-append exceeds.0 exceeds.1,
      length-append exceeds.0 (print_end lf),
      head_some (exceeds.0 ++ print_end lf) exceeds.3 [] exceeds.4,
      exceeds.5,
    )

-- a head that is there has too many headers, if each head that starts like this does
pub crowded_here : (front : List ℕ) (h : RequestHead) (rest : List ℕ) → RequestOverflows 32 front → ReadsRequest front h rest → 32 < length h.fields
crowded_here front h rest many reads = many [] h rest (subst (λ (l : List ℕ). ReadsRequest l h rest) (sym (append-nil front)) reads)

-- and is refused for them
pub too_many : (h : RequestHead) → 32 < length h.fields → head_fault h ≡ Some Refusal.HeadTooLong
too_many h many = grind (arith, nat_tests)

-- what is said of a complete answer holds for its spans
pub whole : (front : List ℕ) (headers : List HeaderSpan) (s : Status RequestSpans) (spans : RequestSpans) → s ≡ Complete spans → IfComplete {E = Error} (Ok s) (IsRequestOf front headers) → IsRequestOf front headers spans
whole front headers s spans is given = subst (λ (t : Status RequestSpans). IfComplete {E = Error} (Ok t) (IsRequestOf front headers)) is given
