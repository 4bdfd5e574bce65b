-- Bytes that are cut into texts.
use Rattle.std.specs.Prelude.{◌≡◌, ℕ, ◌-◌, List, [], ◌∷◌, map, take, drop, length, get_or, Bool, ◌&&◌, nat_le, IsTrue}
use Rattle.std.specs.List.{list_all}
use Rattle.std.specs.Str.{is_utf8}
use Rattle.lei_code.specs.Texts.{Text}

-- A part of some bytes: from the offset `start` up to, but without, the offset `end`.
pub record Span : Type 0 where
  pub start : ℕ
  pub end : ℕ

-- Parts that follow each other directly, given by the end of each. The first one starts at `start`.
abbrev pub spans : ℕ → List ℕ → List Span
spans start [] = []
spans start (end ∷ ends) = record { start = start; end = end } ∷ spans end ends

-- The end of the last one.
abbrev pub last_end : ℕ → List ℕ → ℕ
last_end start [] = start
last_end start (end ∷ ends) = last_end end ends

-- The part at an index has this start and this end.
abbrev pub IsSpan : List ℕ → ℕ → ℕ → ℕ → Type 0
IsSpan ends index start end = (other : Span)
    → get_or (spans 0 ends) index other ≡ record { start = start; end = end }

-- The part of the bytes in a span.
abbrev pub part : List ℕ → Span → Text
part bytes span = take (span.end - span.start) (drop span.start bytes)

-- The parts of the bytes that have these ends. The first one starts at 0.
abbrev pub parts_at_ends : List ℕ → List ℕ → List Text
parts_at_ends bytes ends = map (part bytes) (spans 0 ends)

-- The span is within the bytes, and its part is UTF-8 (RFC 3629).
abbrev pub holds_text : List ℕ → Span → Bool
holds_text bytes span = nat_le span.start span.end && nat_le span.end (length bytes) && is_utf8
    (part bytes span)

-- Each of the parts is a text, and the last one ends at the end of the bytes.
pub record IsCut (bytes ends : List ℕ) : Type 0 where
  pub each : IsTrue (list_all (holds_text bytes) (spans 0 ends))
  pub whole : last_end 0 ends ≡ length bytes
