-- Removing a member from an object keeps the values of the others.
use Rattle.std.proofs.Common.{◌≡◌, ℕ, List, [], ◌∷◌, Bool, true, false, cond, Some, String, Global, bytes_eq, string_bytes, nat_cmp, true≢false, refl, sym, ap, ◌∙◌}
use Rattle.std.specs.BTreeMap.{is_at}
use Rattle.std.specs.Cmp.Lexicographic.{slice_cmp}
use Rattle.std.specs.Map.{remove_entry}
use Rattle.std.specs.Ordering.{match_ordering}
use Rattle.std.proofs.lemmas.Map.Text.{is_eq-slice_cmp}
use Rattle.std.proofs.lemmas.Slice.Eq.{bytes_eq-Decides}
use Rattle.serde_json.proofs.Views.{member_later}
use Rattle.serde_json.specs.Find.{get_member}
use Rattle.serde_json.specs.View.{members_view, view}
use Rattle.serde_json.specs.declared.value.Value.{Value}

abbrev Entry : Type 0
Entry = String Global × Value

-- the test for the member's name
abbrev named : List ℕ → String Global → Bool
named name = is_at (λ k. slice_cmp nat_cmp name (string_bytes k))

pub get_member-removed : (name other : List ℕ) (es : List Entry) → bytes_eq other name ≡ false
    → get_member other (members_view (remove_entry (named name) es)) ≡ get_member other (members_view es)
get_member-removed name other [] apart = refl
get_member-removed name other (e ∷ es) apart =
    elim (named name e.0) as (λ b. named name e.0 ≡ b
    → get_member other (members_view (cond b es (e ∷ remove_entry (named name) es))) ≡ get_member other (members_view (e ∷ es))) [
      | true ↦ λ t.
          let same : name ≡ string_bytes e.0 = (bytes_eq-Decides name (string_bytes e.0)).0 (sym (is_eq-slice_cmp name (string_bytes e.0)) ∙ t) in
          sym (member_later other e es (λ is. true≢false (sym ((bytes_eq-Decides other name).1 (is ∙ sym same)) ∙ apart)))
      | false ↦ λ f.
          ap (λ r. match_ordering (slice_cmp nat_cmp other (string_bytes e.0)) r (Some (view e.1)) r) (get_member-removed name other es apart)
    ] refl
