use Rattle.std.proofs.Common.{◌≡◌, ◌++◌, ℕ, List, sym, subst, ◌∙◌}
use Rattle.std.specs.Str.{IsUtf8}
use Rattle.std.proofs.lemmas.Bool.{false≢true}
use Rattle.copy_csv.proofs.FileLemmas.{begins, begins-not, behind-head}
use Rattle.copy_csv.proofs.csv_files.lines_after_head.Goals as goal

pub returns-then-is_text : goal.returns-then-is_text
returns-then-is_text c =
    let found = c.in-Some.ensures.cases in
    (begins c.args.narrow.now c.args.bytes.now c.in-Some.lines.now found.0 found.1, c.is_text.ensures.0 c.if-is_text.true)

pub returns-else-is_text : goal.returns-else-is_text
returns-else-is_text c =
    let found = c.in-Some.ensures.cases in
    let F : List ℕ → Type 0 = IsUtf8 in
    let whole : c.args.bytes.now ≡ c.args.narrow.now ++ c.in-Some.lines.now =
    begins c.args.narrow.now c.args.bytes.now c.in-Some.lines.now found.0 found.1 in (
      λ rest utf8 is.
          let same : rest ≡ c.in-Some.lines.now = behind-head c.args.narrow.now c.args.bytes.now rest c.in-Some.lines.now is whole in
          false≢true (sym c.if-is_text.false ∙ c.is_text.ensures.1 (subst F same utf8)),
      λ rest utf8 never is. never c.in-Some.lines.now whole,
    )

pub returns-then-is_text-2 : goal.returns-then-is_text-2
returns-then-is_text-2 c =
    let found = c.in-Some-strip_prefix.ensures.cases in (
      begins c.args.wide.now c.args.bytes.now c.in-Some-strip_prefix.lines.now found.0 found.1,
      c.is_text-2.ensures.0 c.if-is_text-2.true,
      λ others. begins-not c.args.narrow.now c.args.bytes.now others c.in_default.ensures.cases,
    )

pub returns-else-is_text-2 : goal.returns-else-is_text-2
returns-else-is_text-2 c =
    let found = c.in-Some-strip_prefix.ensures.cases in
    let F : List ℕ → Type 0 = IsUtf8 in
    let whole : c.args.bytes.now ≡ c.args.wide.now ++ c.in-Some-strip_prefix.lines.now =
    begins c.args.wide.now c.args.bytes.now c.in-Some-strip_prefix.lines.now found.0 found.1 in (
      λ rest utf8. begins-not c.args.narrow.now c.args.bytes.now rest c.in_default.ensures.cases,
      λ rest utf8 never is.
          let same : rest ≡ c.in-Some-strip_prefix.lines.now = behind-head c.args.wide.now c.args.bytes.now rest c.in-Some-strip_prefix.lines.now is whole in
          false≢true (sym c.if-is_text-2.false ∙ c.is_text-2.ensures.1 (subst F same utf8)),
    )

pub returns-in_default-strip_prefix : goal.returns-in_default-strip_prefix
returns-in_default-strip_prefix c = (
  λ rest utf8. begins-not c.args.narrow.now c.args.bytes.now rest c.in_default.ensures.cases,
  λ rest utf8 never. begins-not c.args.wide.now c.args.bytes.now rest c.in_default-strip_prefix.ensures.cases,
)
