-- The texts of reports, part by part.
use Rattle.std.specs.Prelude.{◌≡◌, ℕ, suc, ◌+◌, ◌-◌, ◌<◌, get_or, List, [], ◌∷◌, ◌++◌, codes, decimal, filter, flat_map, length, map}
use Rattle.std.specs.List.{range_with_len}
use Rattle.std.proofs.Common.{refl, sym, ap, subst, ◌∙◌, append_assoc, arith}
use Rattle.std.proofs.lemmas.List.{length-map, map-append}
use Rattle.lei_code.specs.Texts.{Lei, Text}
use Rattle.group_reports.specs.Links.{Link}
use Rattle.group_reports.specs.Listings.{Member}
use Rattle.group_reports.specs.declared.listing.Placed.{Placed}
use Rattle.group_reports.specs.Groups.{disagrees, group, leis_in_order, members}
use Rattle.group_reports.specs.Links.{GroupTable}
use Rattle.group_reports.specs.Listings.{all_members, member_of}
use Rattle.group_reports.specs.Places.{AreBelow}
use Rattle.group_reports.specs.Reports.{disagreement_line, disagreement_lines, group_report, member_line, members_line, report_line, root_line}
use Rattle.group_reports.proofs.ListLemmas.{get_or-map}

-- the members at one more depth were added
pub next_level : (f : Lei → Member) (g : ℕ → List Lei) (made after all : List Member) (steps n : ℕ) → steps < n
    → made ++ map f (flat_map g (range_with_len (steps + 1) (n - steps))) ≡ all → after ≡ made ++ map f (g (steps + 1))
    → after ++ map f (flat_map g (range_with_len (steps + 1 + 1) (n - (steps + 1)))) ≡ all
next_level f g made after all steps n within so_far added =
    let rest : List Lei = flat_map g (range_with_len (steps + 1 + 1) (n - (steps + 1))) in
    let left : n - steps ≡ suc (n - (steps + 1)) = omega (arith, within) in
    ap (λ l. l ++ map f rest) added
    ∙ (append_assoc made (map f (g (steps + 1))) (map f rest)
    ∙ (ap (λ l. made ++ l) (sym (map-append f (g (steps + 1)) rest))
    ∙ (ap (λ m. made ++ map f (flat_map g (range_with_len (steps + 1) m))) (sym left) ∙ so_far)))

-- the place of a member is below a count
pub member_below : (count : ℕ) (members : List Placed) (i : ℕ) (d : Placed) → AreBelow count (map (λ m. m.place) members) → i < length members
    → (get_or members i d).place < count
member_below count members i d below within =
    subst (λ place. place < count) (get_or-map (λ m. m.place) members i 0 d within)
    (below i 0 (subst (λ n. i < n) (sym (length-map members (λ m. m.place))) within))

-- the lines of disagreements, and the line with their number
pub counted_lines : (links : List Link) (leis : List Lei) (old lines out number : Text) (count : ℕ)
    → lines ≡ old ++ flat_map (disagreement_line links) (filter (disagrees links) leis) → count ≡ length (filter (disagrees links) leis)
    → number ≡ decimal count → out ≡ lines ++ report_line (codes "disagreements") (number ∷ []) → out ≡ old ++ disagreement_lines links leis
counted_lines links leis old lines out number count put counted printed is =
    is
    ∙ (ap (λ n. lines ++ report_line (codes "disagreements") (n ∷ [])) (printed ∙ ap decimal counted)
    ∙ (ap (λ l. l ++ report_line (codes "disagreements") (decimal (length (filter (disagrees links) leis)) ∷ [])) put
    ∙ append_assoc old (flat_map (disagreement_line links) (filter (disagrees links) leis))
    (report_line (codes "disagreements") (decimal (length (filter (disagrees links) leis)) ∷ []))))

leis_of : (links : List Link) (root : Lei) (leis : List Lei) → map (λ member. member.lei) (map (member_of links root) leis) ≡ leis
leis_of links root [] = refl
leis_of links root (lei ∷ leis) = ap (λ l. lei ∷ l) (leis_of links root leis)

-- the parts of a report, one after another
pub report_of_parts : (table : GroupTable) (root : Lei) (first second third out : Text) (made : List Member) (count : ℕ) (entities : List Lei)
    → first ≡ root_line table.names root → second ≡ first ++ flat_map (member_line table) made → third ≡ second ++ members_line count
    → out ≡ third ++ disagreement_lines table.links entities → made ≡ all_members table.links root → count ≡ length made
    → entities ≡ leis_in_order (root ∷ map (λ member. member.lei) made) → out ≡ group_report table root
unfolding group_report
report_of_parts table root first second third out made count entities one two three four made_is count_is entities_are =
    let lines : Text = flat_map (member_line table) made in
    let number : count ≡ length (members table.links root) =
    count_is ∙ (ap length made_is ∙ length-map (members table.links root) (member_of table.links root)) in
    let all : entities ≡ group table.links root =
    entities_are ∙ (ap (λ l. leis_in_order (root ∷ map (λ member. member.lei) l)) made_is
    ∙ ap (λ l. leis_in_order (root ∷ l)) (leis_of table.links root (members table.links root))) in
    four
    ∙ (ap (λ l. l ++ disagreement_lines table.links entities)
    (three ∙ ap (λ l. l ++ members_line count) (two ∙ ap (λ l. l ++ lines) one))
    ∙ (append_assoc (root_line table.names root ++ lines) (members_line count) (disagreement_lines table.links entities)
    ∙ (append_assoc (root_line table.names root) lines (members_line count ++ disagreement_lines table.links entities)
    ∙ (ap (λ l. root_line table.names root ++ (flat_map (member_line table) l ++ (members_line count ++ disagreement_lines table.links entities))) made_is
    ∙ (ap (λ n. root_line table.names root ++ (flat_map (member_line table) (all_members table.links root) ++ (members_line n ++ disagreement_lines table.links entities))) number
    ∙ ap (λ l. root_line table.names root ++ (flat_map (member_line table) (all_members table.links root) ++ (members_line (length (members table.links root)) ++ disagreement_lines table.links l))) all)))))
