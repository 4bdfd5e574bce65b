-- Terms by their nodes.
use Rattle.std.proofs.Common.{◌≡◌, ℕ, zero, suc, List, [], ◌∷◌, length, refl, ap, ap₂, sym, subst, ◌∙◌, pos}
use Rattle.sqlite_value.specs.declared.value.Value.TheVariants.{Int}
use Rattle.sqlite_value.specs.declared.keys.Collation.TheVariants.{Binary}
use Rattle.sqlite_sql.specs.declared.ops.BinaryOp.TheVariants.{Compare}
use Rattle.sqlite_sql.specs.declared.ops.CompareOp.TheVariants.{Ge}
use Rattle.sqlite_sql.specs.Term.{Term, lit, col, op2}
use Rattle.sqlite_schema.specs.declared.code.Op.{Op}
use Rattle.sqlite_schema.specs.Code.{op_term, term_in, term_to}
use Rattle.store_statements.specs.Checks.{node_at}
use Rattle.store_statements.specs.Schemas.{at_least_one}

-- A node whose term is a value of a row is that value.
column_node : (below : ℕ → Term) (op : Op) (place : ℕ) → op_term below op ≡ col 1 place
    → op ≡ Op.Column 1 place
column_node below (Op.Literal v) place p = absurd (cc)
column_node below (Op.Column slot at) place p = cc
column_node below (Op.Unary op a) place p = absurd (cc)
column_node below (Op.Binary op a b) place p = absurd (cc)
column_node below (Op.Case t a b) place p = absurd (cc)

-- A node whose term is the number 1 is that literal.
one_node : (below : ℕ → Term) (op : Op) → op_term below op ≡ lit (Int (pos 1)) → op ≡ Op.Literal (Int (pos 1))
one_node below (Op.Literal v) p = cc
one_node below (Op.Column slot at) p = absurd (cc)
one_node below (Op.Unary op a) p = absurd (cc)
one_node below (Op.Binary op a b) p = absurd (cc)
one_node below (Op.Case t a b) p = absurd (cc)

column_at : (nodes : List Op) (depth at place : ℕ) → term_to nodes depth at ≡ col 1 place
    → node_at nodes at ≡ Op.Column 1 place
column_at nodes zero at place p = absurd (cc)
column_at nodes (suc depth) at place p = column_node (term_to nodes depth) (node_at nodes at) place p

one_at : (nodes : List Op) (depth at : ℕ) → term_to nodes depth at ≡ lit (Int (pos 1))
    → node_at nodes at ≡ Op.Literal (Int (pos 1))
one_at nodes zero at p = absurd (cc)
one_at nodes (suc depth) at p = one_node (term_to nodes depth) (node_at nodes at) p

-- The operands of a test, by its node.
operands : (nodes : List Op) (depth index value one place : ℕ)
    → node_at nodes index ≡ Op.Binary (Compare Ge Binary) value one
    → term_to nodes (suc depth) index ≡ at_least_one place
    → (term_to nodes depth value ≡ col 1 place) × (term_to nodes depth one ≡ lit (Int (pos 1)))
operands nodes depth index value one place is p =
    let both : op2 (Compare Ge Binary) (term_to nodes depth value) (term_to nodes depth one)
    ≡ at_least_one place
    = ap (op_term (term_to nodes depth)) (sym is) ∙ p in
    (cc, cc)

-- If two of the nodes differ, there are at least two.
two_nodes : (nodes : List Op) (index value one place : ℕ)
    → node_at nodes index ≡ Op.Binary (Compare Ge Binary) value one
    → node_at nodes value ≡ Op.Column 1 place → (depth : ℕ) × (length nodes ≡ suc (suc depth))
two_nodes [] index value one place p q = absurd (cc)
two_nodes (n ∷ []) zero zero one place p q = absurd (cc)
two_nodes (n ∷ []) zero (suc value) one place p q = absurd (cc)
two_nodes (n ∷ []) (suc index) value one place p q = absurd (cc)
two_nodes (n ∷ m ∷ nodes) index value one place p q = (length nodes, refl)

-- A node that compares a value of a row with the number 1 is the test that the value is at least 1.
pub test_is : (nodes : List Op) (index value one place : ℕ)
    → node_at nodes index ≡ Op.Binary (Compare Ge Binary) value one
    → node_at nodes value ≡ Op.Column 1 place → node_at nodes one ≡ Op.Literal (Int (pos 1))
    → term_in nodes index ≡ at_least_one place
test_is nodes index value one place is p q = go (two_nodes nodes index value one place is p)
  where
    by_depth : (depth : ℕ) → term_to nodes (suc (suc depth)) index ≡ at_least_one place
    by_depth depth =
        ap (op_term (term_to nodes (suc depth))) is
        ∙ ap₂ (op2 (Compare Ge Binary)) (ap (op_term (term_to nodes depth)) p)
        (ap (op_term (term_to nodes depth)) q)

    go : (depth : ℕ) × (length nodes ≡ suc (suc depth)) → term_in nodes index ≡ at_least_one place
    go (depth, is) = subst (λ n. term_to nodes n index ≡ at_least_one place) (sym is) (by_depth depth)

-- The converse.
pub test_nodes : (nodes : List Op) (index value one place : ℕ)
    → node_at nodes index ≡ Op.Binary (Compare Ge Binary) value one
    → term_in nodes index ≡ at_least_one place
    → (node_at nodes value ≡ Op.Column 1 place) × (node_at nodes one ≡ Op.Literal (Int (pos 1)))
test_nodes [] index value one place is p = absurd (cc)
test_nodes (n ∷ nodes) index value one place is p = go
    (operands (n ∷ nodes) (length nodes) index value one place is p)
  where
    go : (term_to (n ∷ nodes) (length nodes) value ≡ col 1 place)
        × (term_to (n ∷ nodes) (length nodes) one ≡ lit (Int (pos 1)))
        → (node_at (n ∷ nodes) value ≡ Op.Column 1 place)
        × (node_at (n ∷ nodes) one ≡ Op.Literal (Int (pos 1)))
    go (v, o) = (column_at (n ∷ nodes) (length nodes) value place v, one_at (n ∷ nodes) (length nodes) one o)
