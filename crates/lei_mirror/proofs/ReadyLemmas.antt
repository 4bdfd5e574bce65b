-- The greatest ready publication of the packets that were looked at.
use Rattle.std.proofs.Common.{◌≡◌, ℕ, ◌+◌, ◌<◌, ◌≤◌, ◌⊎◌, inl, inr, true, ◌||◌, List, [], ◌∷◌, ◌++◌, length, get_or, take, sym, ap, subst, ◌∙◌, arith}
use Rattle.std.specs.List.{list_any}
use Rattle.std.proofs.lemmas.Bool.{false≢true, or_cases}
use Rattle.std.proofs.lemmas.Bool.Decides.{nat_tests}
use Rattle.std.proofs.lemmas.List.{take_all, take_more}
use Rattle.std.proofs.lemmas.List.Folds.{list_any-append}
use Rattle.register_words.specs.declared.sheets.Sheet.{Sheet}
use Rattle.lei_mirror.specs.declared.packet.Packet.{Packet}
use Rattle.lei_mirror.specs.Mirrors.{IsGreatestReady, IsReadyToShow}
use Rattle.lei_mirror.proofs.PacketLemmas.{packet_for_any, is_numbered}

-- no ready publication of the first packets is greater
pub record GreatestSoFar (shown : ℕ) (kept : List Packet) (count greatest : ℕ) : Type 0 where
  pub least : shown ≤ greatest
  pub ready : shown < greatest → IsReadyToShow shown kept greatest
  pub covers : (number : ℕ) → IsReadyToShow shown kept number → list_any (is_numbered number) (take count kept) ≡ true → number ≤ greatest

module _ (shown : ℕ) (kept : List Packet) where
  pub greatest_begins : GreatestSoFar shown kept 0 shown
  greatest_begins = record {
    least = omega arith;
    ready = λ less. absurd (omega arith);
    covers = λ number is any. absurd (false≢true any);
  }

  -- one more packet
  more_any : (count number : ℕ) (packet : Packet) → count < length kept → packet ≡ get_or kept count packet
      → list_any (is_numbered number) (take (count + 1) kept) ≡ true
      → (list_any (is_numbered number) (take count kept) ≡ true) ⊎ (packet.head.publication ≡ number)
  more_any count number packet within here any =
      let all : list_any (is_numbered number) (take count kept ++ get_or kept count packet ∷ []) ≡ true =
      ap (list_any (is_numbered number)) (sym (take_more kept count packet within)) ∙ any in
      let parts : (list_any (is_numbered number) (take count kept) || list_any (is_numbered number) (get_or kept count packet ∷ [])) ≡ true =
      sym (list_any-append (is_numbered number) (take count kept) (get_or kept count packet ∷ [])) ∙ all in
      elim (or_cases (list_any (is_numbered number) (take count kept)) (list_any (is_numbered number) (get_or kept count packet ∷ [])) parts) [
        | inl before ↦ inl before
        | inr last ↦ inr (one_more (is_one (get_or kept count packet) last))
      ]
    where
      is_one : (other : Packet) → list_any (is_numbered number) (other ∷ []) ≡ true → other.head.publication ≡ number
      is_one other e = grind (arith, nat_tests)

      one_more : (get_or kept count packet).head.publication ≡ number → packet.head.publication ≡ number
      one_more e = ap (λ (p : Packet). p.head.publication) here ∙ e

  -- the publication of this packet is ready and greater
  pub greatest_takes : (count greatest : ℕ) (packet : Packet) → GreatestSoFar shown kept count greatest → count < length kept
      → packet ≡ get_or kept count packet → greatest < packet.head.publication → IsReadyToShow shown kept packet.head.publication
      → GreatestSoFar shown kept (count + 1) packet.head.publication
  greatest_takes count greatest packet so_far within here greater is = record {
    least = let least : shown ≤ greatest = so_far.least in omega arith;
    ready = λ less. is;
    covers = λ number ready any. elim (more_any count number packet within here any) [
      | inl before ↦ let below : number ≤ greatest = so_far.covers number ready before in omega arith
      | inr same ↦ omega arith
    ];
  }

  -- it isn't greater, or it isn't ready
  pub greatest_stays : (count greatest : ℕ) (packet : Packet) → GreatestSoFar shown kept count greatest → count < length kept
      → packet ≡ get_or kept count packet → (greatest < packet.head.publication → IsReadyToShow shown kept packet.head.publication → ⊥)
      → GreatestSoFar shown kept (count + 1) greatest
  greatest_stays count greatest packet so_far within here none = record {
    least = so_far.least;
    ready = so_far.ready;
    covers = λ number ready any. elim (more_any count number packet within here any) [
      | inl before ↦ so_far.covers number ready before
      | inr same ↦ below number ready same
    ];
  }
    where
      below : (number : ℕ) → IsReadyToShow shown kept number → packet.head.publication ≡ number → number ≤ greatest
      below number ready same =
          let no : greatest < packet.head.publication → ⊥ = λ greater. none greater (subst (IsReadyToShow shown kept) (sym same) ready) in omega (arith, no)

  -- all packets were looked at
  all_covered : (greatest : ℕ) (count : ℕ) → GreatestSoFar shown kept count greatest → length kept ≤ count → (number : ℕ) → IsReadyToShow shown kept number
      → number ≤ greatest
  all_covered greatest count so_far all number ready =
      so_far.covers number ready
      (ap (list_any (is_numbered number)) (take_all count kept all) ∙ packet_for_any shown kept number Sheet.Lei (ready.packets Sheet.Lei))

  pub greatest_found : (count greatest : ℕ) → GreatestSoFar shown kept count greatest → length kept ≤ count → shown < greatest
      → IsGreatestReady shown kept greatest
  greatest_found count greatest so_far all less = record { ready = so_far.ready less; greatest = all_covered greatest count so_far all }

  pub none_ready : (count greatest : ℕ) → GreatestSoFar shown kept count greatest → length kept ≤ count → greatest ≤ shown → (number : ℕ)
      → IsReadyToShow shown kept number → ⊥
  none_ready count greatest so_far all least number ready =
      let below : number ≤ greatest = all_covered greatest count so_far all number ready in
      let later : shown < number = ready.later in absurd (omega arith)
