use Rattle.std.proofs.Common.{ℕ, List, Bool, true, false, sym, subst, ◌∙◌}
use Rattle.std.specs.Str.{IsUtf8}
use Rattle.copy_csv.specs.Taking.{SkipsAll, drop_bytes, put_bytes}
use Rattle.copy_csv.proofs.LineLemmas.{drop-utf8, put-utf8}
use Rattle.copy_csv.proofs.csv_rows.read_change.Goals as goal

pub read_put-requires : goal.read_put-requires
read_put-requires c =
    let F : Bool → Type 0 = λ found. SkipsAll put_bytes c.args.reader.now found c.skip_all.new.self in
    let skipped : F true = subst F c.if-skip_all.true c.skip_all.ensures in
    let G : List ℕ → Type 0 = IsUtf8 in
    put-utf8 c.skip_all.new.self (subst G skipped c.requires)

pub read_drop-requires : goal.read_drop-requires
read_drop-requires c =
    let H : Bool → Type 0 = λ found. SkipsAll put_bytes c.args.reader.now found c.skip_all.new.self in
    let other : H false = subst H c.if-skip_all.false c.skip_all.ensures in
    let F : Bool → Type 0 = λ found. SkipsAll drop_bytes c.skip_all.new.self found c.skip_all-2.new.self in
    let skipped : F true = subst F c.if-skip_all-2.true c.skip_all-2.ensures in
    let G : List ℕ → Type 0 = IsUtf8 in
    drop-utf8 c.skip_all-2.new.self (subst G (sym other.0 ∙ skipped) c.requires)
