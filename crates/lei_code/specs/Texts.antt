-- Lists of bytes, named by what they are. To the prover each is a list of numbers below 256; the names are for readers.
use Rattle.std.specs.Prelude.{ℕ, List}

-- A Legal Entity Identifier (LEI): its 20 characters, or a text that is checked for being one.
abbrev pub Lei : Type 0
Lei = List ℕ

-- A text in UTF-8.
abbrev pub Text : Type 0
Text = List ℕ

-- The bytes of an upload, as they were sent.
abbrev pub Body : Type 0
Body = List ℕ
