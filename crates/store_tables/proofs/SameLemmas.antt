-- What the tests say.
use Rattle.std.proofs.Common.{◌≡◌, Bool, true, false, ◌&&◌, refl, ap, ap₂, subst, arith}
use Rattle.std.proofs.lemmas.Bool.Decides.{nat_tests}
use base.Stored.{Gv, gnil, gnum, gcons}
use Rattle.sqlite_value.specs.Order.{Row}
use Rattle.sqlite_value.specs.contracts.row.Row as row
use Rattle.sqlite_schema.specs.declared.schema.Schema.{Schema}
use Rattle.sqlite_schema.specs.contracts.schema.Schema as schema
use Rattle.store_tables.specs.Same.{same_code, same_row, same_schema}

pub left_of : (a b : Bool) → (a && b) ≡ true → a ≡ true
left_of true b h = refl
left_of false b h = h

pub right_of : (a b : Bool) → (a && b) ≡ true → b ≡ true
right_of true b h = h
right_of false b h = absurd (cc)

pub both_of : (a b : Bool) → a ≡ true → b ≡ true → (a && b) ≡ true
both_of a b p q = rw p q

code_is : (a b : Gv) → same_code a b ≡ true → a ≡ b
code_is gnil gnil h = refl
code_is (gnum m) (gnum n) h = ap gnum (grind (arith, nat_tests))
code_is (gcons a b) (gcons c d) h = ap₂ gcons (code_is a c (left_of _ _ h)) (code_is b d (right_of _ _ h))
code_is gnil (gnum n) h = absurd (cc)
code_is gnil (gcons c d) h = absurd (cc)
code_is (gnum m) gnil h = absurd (cc)
code_is (gnum m) (gcons c d) h = absurd (cc)
code_is (gcons a b) gnil h = absurd (cc)
code_is (gcons a b) (gnum n) h = absurd (cc)

itself : (a : Gv) → same_code a a ≡ true
itself gnil = refl
itself (gnum m) = grind (arith, nat_tests)
itself (gcons a b) = both_of _ _ (itself a) (itself b)

pub row_is : (a b : Row) → same_row a b ≡ true → a ≡ b
unfolding same_row
row_is a b h = row.the_row.coded.inj a b (code_is _ _ h)

pub row_itself : (a b : Row) → a ≡ b → same_row a b ≡ true
unfolding same_row
row_itself a b e = subst (λ x. same_code (row.the_row.coded.code a) (row.the_row.coded.code x) ≡ true) e
    (itself (row.the_row.coded.code a))

pub schema_is : (a b : Schema) → same_schema a b ≡ true → a ≡ b
unfolding same_schema
schema_is a b h = schema.the_row.coded.inj a b (code_is _ _ h)

pub schema_itself : (a b : Schema) → a ≡ b → same_schema a b ≡ true
unfolding same_schema
schema_itself a b e = subst
    (λ x. same_code (schema.the_row.coded.code a) (schema.the_row.coded.code x) ≡ true) e
    (itself (schema.the_row.coded.code a))
