-- What a clock in memory tells after one more call.
use Rattle.std.proofs.Common.{◌≡◌, ℕ, ◌+◌, ◌-◌, ◌^◌, ◌<◌, ◌≤◌, ◌==◌, ℤ, List, [], ◌∷◌, ◌++◌, length, take, replicate, Bool, true, false, cond, inl, inr, Some, None, refl, sym, ap, ◌∙◌, append_assoc, arith}
use Rattle.std.proofs.lemmas.Bool.Decides.{eqb_tells, leb_tells}
use Rattle.std.proofs.lemmas.List.{append-nil, take_all, take_more, get_or_past, replicate-append-replicate}
use Rattle.lei_values.specs.Count.{count_up}
use Rattle.lei_outside.specs.Clock.{Gave}
use Rattle.memory_devices.specs.Clock.{ClockState, first_moments, given_by, last_moment, moment_after}

-- one more of the list
more_within : (moments : List ℤ) (calls : ℕ) → calls < length moments → first_moments moments (calls + 1) ≡ first_moments moments calls ++ moment_after moments calls ∷ []
more_within moments calls within =
    let latest = last_moment moments in
    let none : calls - length moments ≡ 0 = omega arith in
    let still_none : calls + 1 - length moments ≡ 0 = omega arith in
    rw (none, still_none) (append-nil (take (calls + 1) moments) ∙ take_more moments calls latest within ∙ ap (λ l. l ++ moment_after moments calls ∷ []) (sym (append-nil (take calls moments))))

-- the last moment once more
more_behind : (moments : List ℤ) (calls : ℕ) → length moments ≤ calls → first_moments moments (calls + 1) ≡ first_moments moments calls ++ moment_after moments calls ∷ []
more_behind moments calls behind =
    let latest = last_moment moments in
    let one_more : calls + 1 - length moments ≡ calls - length moments + 1 = omega arith in
    let all : take (calls + 1) moments ≡ take calls moments = take_all (calls + 1) moments (omega arith) ∙ sym (take_all calls moments behind) in
    rw (one_more, all, get_or_past moments calls latest behind)
    (ap (λ l. take calls moments ++ l) (sym (replicate-append-replicate (calls - length moments) 1 latest)) ∙ sym (append_assoc (take calls moments) (replicate (calls - length moments) latest) (latest ∷ [])))

one_more : (moments : List ℤ) (calls : ℕ) → first_moments moments (calls + 1) ≡ first_moments moments calls ++ moment_after moments calls ∷ []
one_more moments calls = elim (leb_tells (length moments) calls) [ inl is ↦ more_behind moments calls is.1 | inr is ↦ more_within moments calls is.1 ]

-- by whether the count was at its greatest value before, and whether it is now
gave_by : (was is : Bool) (moments : List ℤ) (calls now : ℕ) → (was ≡ true → is ≡ true) → (was ≡ false → is ≡ false → now ≡ calls + 1)
    → Gave (cond was None (Some (first_moments moments calls))) (cond is None (Some (first_moments moments now))) (moment_after moments calls ∷ [])
gave_by true true moments calls now stays counts = tt
gave_by true false moments calls now stays counts = let bad : false ≡ true = stays refl in cc
gave_by false true moments calls now stays counts = tt
gave_by false false moments calls now stays counts = ap (first_moments moments) (counts refl refl) ∙ one_more moments calls

pub gave_one : (clock : ClockState) (moment : ℤ) → moment ≡ moment_after clock.moments clock.calls → Gave (given_by clock) (given_by (record clock { calls = count_up clock.calls })) (moment ∷ [])
gave_one clock moment is =
    let calls = clock.calls in
    rw is (gave_by (calls == 2 ^ 64 - 1) (count_up calls == 2 ^ 64 - 1) clock.moments calls (count_up calls)
    (λ was. elim (eqb_tells calls (2 ^ 64 - 1)) [ inl e ↦ elim (eqb_tells (count_up calls) (2 ^ 64 - 1)) [ inl f ↦ f.0 | inr f ↦ absurd (f.1 (omega (arith, e.1))) ] | inr e ↦ cc ])
    (λ was now. elim (eqb_tells calls (2 ^ 64 - 1)) [ inl e ↦ cc | inr e ↦ elim (eqb_tells (count_up calls) (2 ^ 64 - 1)) [ inl f ↦ cc | inr f ↦ omega (arith, e.1, f.1) ] ]))
