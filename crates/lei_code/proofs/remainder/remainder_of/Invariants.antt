use Rattle.std.proofs.Common.{◌≡◌, ◌%◌, ◌<◌, ◌≤◌, ℕ, take}
use Rattle.std.specs.Prelude.{IsTrue}
use Rattle.lei_code.specs.Number.{number}
use Rattle.lei_code.specs.Code.{may_be_at, character}
use Rattle.lei_code.proofs.remainder.remainder_of.Given as goal

abbrev pub invariant-loop-index : goal.invariant-loop-index
invariant-loop-index l = record {
  remainder : l.number % 97 ≡ number (take l.index l.text) % 97;
  small : l.number < 1_000_000_000_000_000_036;
  well_formed : (place : ℕ) → 1 ≤ place → place ≤ l.index → IsTrue (may_be_at place (character l.text place));
}
