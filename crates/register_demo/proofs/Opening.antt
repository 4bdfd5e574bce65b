-- The office that a demo starts with, and the entries that it ends with.
use Rattle.std.proofs.Common.{◌≡◌, ℕ, List, [], ◌∷◌, ◌++◌, length, Some, refl, sym, ap, subst, ◌∙◌}
use Rattle.std.specs.Prelude.{slice_get, count_by, ◌-◌}
use Rattle.lei_values.specs.KeptTables.{KeptTables, entry_number, last_number, nothing_kept}
use Rattle.lei_keeper.specs.Keeping.{TablesStay}
use Rattle.memory_devices.specs.Memory.{SureKeeperState, tables_of}
use Rattle.register_history.specs.Damage.{IsDamage}
use Rattle.register_history.specs.Kept.{Keeps}
use Rattle.register_history.specs.Legal.{Legal}
use Rattle.register_words.specs.Limits.{standard}
use Rattle.lei_office.specs.Offices.{IsRefused, keeper_back}
use Rattle.register_history.specs.State.{OfficeState, new_office, office_of}
use Rattle.register_history.specs.declared.damage.Damage.{Damage}
use Rattle.register_words.specs.declared.limits.Limits.{Limits}
use Rattle.lei_office.specs.declared.opening.OpenFault.{OpenFault}
use Rattle.lei_office.specs.declared.opening.OpenFault.TheVariants.{StoreDamaged}
use Rattle.register_history.proofs.Excluding.{damage-excludes}
use Rattle.lei_office.proofs.Leading.{legal-last}
use Rattle.register_history.proofs.TableLemmas.{keeps-none}
use Rattle.register_demo.specs.Marks.{row_count_in}
use Rattle.register_demo.specs.Requests.{demo_requests, office_from}
use Rattle.register_demo.specs.Session.{IsSummary, MakesRegister, is_created_reply, is_ok_reply, summary_with_counts, text_in_reply, texts_of_replies}
use Rattle.register_demo.specs.Summary.{delta_lines, lines_text, publication_lines, verdict_lines}
use Rattle.register_demo.specs.declared.summary.Told.{Told}

-- the office of a keeper that has nothing
pub begins : (office : OfficeState) (old new : KeptTables) → office.limits ≡ standard → Keeps (Some new) office → new ≡ old → old.entries ≡ []
    → office ≡ new_office standard
begins office old new limits keeps same none =
    ap (λ l. office_of l office.history) limits ∙ ap (office_of standard) (sym keeps.entries ∙ ap (λ t. t.entries) same ∙ none)

-- a keeper that has nothing isn't damaged
pub undamaged : (limits : Limits) (tables : KeptTables) (damage : Damage) → tables ≡ nothing_kept → IsDamage limits tables damage → ⊥
unfolding Legal
undamaged limits tables damage same is =
    damage-excludes limits nothing_kept damage (subst (λ told. IsDamage limits told damage) same is) (tt {0}, keeps-none limits (Some nothing_kept) refl)

-- a keeper in memory that has nothing is never reported as damaged
pub never_damaged : (limits : Limits) (fault : OpenFault SureKeeperState) (old back : SureKeeperState) (damage : Damage) → fault ≡ StoreDamaged back damage
    → IsRefused limits (λ k. Some (tables_of k)) fault → TablesStay (Some (tables_of old)) (Some (tables_of (keeper_back fault))) → tables_of old ≡ nothing_kept → ⊥
never_damaged limits fault old back damage is refused stays none =
    undamaged limits (tables_of back) damage
    (subst (λ f. TablesStay (Some (tables_of old)) (Some (tables_of (keeper_back f)))) is stays ∙ none)
    (subst (λ f. IsRefused limits (λ k. Some (tables_of k)) f) is refused)

-- the number of a keeper's last entry is how many entries the office has
pub ends : (office : OfficeState) (tables : KeptTables) → Keeps (Some tables) office → Legal office → last_number tables ≡ length office.history
ends office tables keeps legal =
    ap (λ entries. entry_number (slice_get entries (length entries - 1))) keeps.entries ∙ legal-last office.limits office.history legal

abbrev text-with : ℕ → List ℕ → ℕ → ℕ → List ℕ → ℕ → ℕ → ℕ → List ℕ
text-with entries answers repeats publications published records relationships applied = lines_text (verdict_lines entries answers
    ++ (publication_lines repeats publications published ++ delta_lines records relationships applied))

all-same : (e e' : ℕ) (a a' : List ℕ) (r r' p p' : ℕ) (s s' : List ℕ) (x x' y y' z : ℕ) → e ≡ e' → a ≡ a' → r ≡ r' → p ≡ p' → s ≡ s' → x ≡ x' → y ≡ y'
    → text-with e a r p s x y z ≡ text-with e' a' r' p' s' x' y' z
all-same e e' a a' r r' p p' s s' x x' y y' z i j k l m n o =
    ap (λ v. text-with v a r p s x y z) i ∙ ap (λ v. text-with e' v r p s x y z) j ∙ ap (λ v. text-with e' a' v p s x y z) k
    ∙ ap (λ v. text-with e' a' r' v s x y z) l ∙ ap (λ v. text-with e' a' r' p' v x y z) m ∙ ap (λ v. text-with e' a' r' p' s' v y z) n
    ∙ ap (λ v. text-with e' a' r' p' s' x' v z) o

-- the summary of what the replies say
pub summed : (n entries : ℕ) (from after : OfficeState) (told : Told) (text : List ℕ) → from ≡ new_office standard → MakesRegister n from after told
    → entries ≡ length after.history → text ≡ summary_with_counts entries told → IsSummary n text
summed n entries from after told text first was count printed =
    let F : OfficeState → Type 0 = λ office. MakesRegister n office after told in
    let is : MakesRegister n (new_office standard) after told = subst F first was in
    let r = is.replies in
    record {
      told = r;
      are = is.are;
      applied = told.applied;
      applied_is = is.applied;
      text_is = printed ∙ all-same entries (length (office_from (new_office standard) 0 (demo_requests n)).history) told.answers.items
          (texts_of_replies (r.records ++ r.relationships)) told.repeats (count_by is_ok_reply r.repeats) told.publications
          (count_by is_created_reply (r.first_publication ∷ r.second_publication ∷ [])) told.published (text_in_reply r.second_publication) told.records
          (row_count_in (text_in_reply r.lei_delta)) told.relationships (row_count_in (text_in_reply r.rr_delta)) told.applied
          (count ∙ ap (λ office. length office.history) is.leads) is.answers is.repeats is.publications is.published is.records is.relationships;
    }
