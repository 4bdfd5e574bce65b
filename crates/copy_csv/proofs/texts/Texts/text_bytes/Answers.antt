use Rattle.std.proofs.Common.{◌≡◌, ◌-◌, ◌≤◌, ℕ, List, length, take, drop, sym, subst, ap, ◌∙◌, arith}
use Rattle.std.specs.Prelude.{IsTrue}
use Rattle.std.specs.List.{list_all}
use Rattle.std.specs.Str.{IsUtf8, is_utf8}
use Rattle.lei_records.specs.Rows.{text_at}
use Rattle.std.proofs.lemmas.List.{length-map}
use Rattle.copy_csv.specs.Cuts.{part, spans}
use Rattle.copy_csv.proofs.CutLemmas.{length-spans, parts_at_ends-utf8_of, text-at}
use Rattle.copy_csv.proofs.texts.Texts.text_bytes.Goals as goal

pub span-start-requires : goal.span-start-requires
span-start-requires c =
    let wide : length c.args.self.now ≡ length c.self.inside.ends = ap length (sym c.self.view_is)
    ∙ length-map (spans 0 c.self.inside.ends) (part c.self.inside.bytes.items) ∙ length-spans 0 c.self.inside.ends in
    grind (arith, wide, c.requires.first, c.requires.last)

pub slice_bounds-result-count : goal.slice_bounds-result-count
slice_bounds-result-count c =
    let at = text-at c.self.inside.bytes.items c.self.inside.ends c.args.place c.span-start.result.0 c.span-start.result.1 c.self.invariant c.requires.first
    (rw c.self.view_is c.requires.last) c.span-start.ensures in
    at.ordered

pub slice_bounds-result-start : goal.slice_bounds-result-start
slice_bounds-result-start c =
    let at = text-at c.self.inside.bytes.items c.self.inside.ends c.args.place c.span-start.result.0 c.span-start.result.1 c.self.invariant c.requires.first
    (rw c.self.view_is c.requires.last) c.span-start.ensures in
    at.ordered

pub slice_bounds-result-end : goal.slice_bounds-result-end
slice_bounds-result-end c =
    let at = text-at c.self.inside.bytes.items c.self.inside.ends c.args.place c.span-start.result.0 c.span-start.result.1 c.self.invariant c.requires.first
    (rw c.self.view_is c.requires.last) c.span-start.ensures in
    let F : List ℕ → Type 0 = λ l. c.span-start.result.1 ≤ length l in
    subst F (sym c.as_slice.ensures.value) at.within

pub returns-clause-value : goal.returns-clause-value
returns-clause-value c =
    let at = text-at c.self.inside.bytes.items c.self.inside.ends c.args.place c.span-start.result.0 c.span-start.result.1 c.self.invariant c.requires.first
    (rw c.self.view_is c.requires.last) c.span-start.ensures in
    ap (λ l. take (c.span-start.result.1 - c.span-start.result.0) (drop c.span-start.result.0 l)) c.as_slice.ensures.value
    ∙ at.value ∙ ap (λ l. text_at l c.args.place) c.self.view_is

pub returns-clause-text : goal.returns-clause-text
returns-clause-text c =
    let at = text-at c.self.inside.bytes.items c.self.inside.ends c.args.place c.span-start.result.0 c.span-start.result.1 c.self.invariant c.requires.first
    (rw c.self.view_is c.requires.last) c.span-start.ensures in
    let F : List ℕ → Type 0 = λ l. IsUtf8 (take (c.span-start.result.1 - c.span-start.result.0) (drop c.span-start.result.0 l)) in
    subst F (sym c.as_slice.ensures.value) at.utf8

pub returns-clause-utf8 : goal.returns-clause-utf8
returns-clause-utf8 c = let F : List (List ℕ) → Type 0 = λ l. IsTrue (list_all is_utf8 l) in
    subst F c.self.view_is (parts_at_ends-utf8_of c.self.inside.bytes.items c.self.inside.ends c.self.invariant)
