-- How many replies report a fault of the keeper.
use Rattle.std.proofs.Common.{◌≡◌, ◌≢◌, ℕ, ◌+◌, ◌≤◌, zero, suc, Bool, true, false, cond, List, [], ◌∷◌, ◌++◌, length, Contains, refl, sym, ap, subst, arith}
use Rattle.std.specs.Prelude.{nat_eq}
use Rattle.std.proofs.lemmas.Bool.{eqb-true}
use Rattle.lei_values.specs.Count.{Rose}
use Rattle.register_words.specs.Refusals.{refusal_status_code}
use Rattle.register_words.specs.declared.reply.Refusal.{Refusal}
use Rattle.register_words.specs.declared.reply.Refusal.TheVariants as refusals
use Rattle.register_words.specs.declared.reply.Refusal.TheVariants.{KeeperFault}
use Rattle.register_words.specs.declared.reply.Reply.{Reply}
use Rattle.register_words.specs.declared.reply.Reply.TheVariants.{Text, Words}
use Rattle.request_loop.specs.Counts.{RoseBy}
use Rattle.request_loop.proofs.Counting.{RoseBy-none, passing-append}
use Rattle.lei_office.specs.Faults.{is_keeper_fault, keeper_faults}

pub keeper_faults-append : (xs ys : List Reply) → keeper_faults (xs ++ ys) ≡ keeper_faults xs + keeper_faults ys
keeper_faults-append xs ys = passing-append is_keeper_fault xs ys

-- ---- one reply

refusal_is : (refusal : Refusal) → is_keeper_fault (Words refusal) ≡ true → Words refusal ≡ Words KeeperFault
refusal_is refusals.TooLong is = cc
refusal_is refusals.NoRoute is = cc
refusal_is refusals.Path is = cc
refusal_is refusals.IssuerUnknown is = cc
refusal_is refusals.NumberTaken is = cc
refusal_is (refusals.NumberAhead number) is = cc
refusal_is (refusals.Malformed fault) is = cc
refusal_is refusals.LedgerFull is = cc
refusal_is refusals.NotKept is = cc
refusal_is refusals.LeiUnknown is = cc
refusal_is refusals.NothingPublished is = cc
refusal_is refusals.PublicationUnknown is = cc
refusal_is refusals.NoBase is = cc
refusal_is refusals.NoMemory is = cc
refusal_is refusals.KeeperFault is = refl
refusal_is refusals.Head is = cc
refusal_is refusals.HeadTooLong is = cc
refusal_is refusals.LengthRequired is = cc
refusal_is (refusals.Method allowed) is = cc

reply_is : (reply : Reply) → is_keeper_fault reply ≡ true → reply ≡ Words KeeperFault
reply_is (Text code kind text) is = cc
reply_is (Words refusal) is = refusal_is refusal is

abbrev one : Bool → ℕ
one true = 1
one false = 0

faults_of : (reply : Reply) (test : Bool) → is_keeper_fault reply ≡ test → keeper_faults (reply ∷ []) ≡ one test
faults_of reply true is = ap (λ b. length (cond b (reply ∷ []) [])) is
faults_of reply false is = ap (λ b. length (cond b (reply ∷ []) [])) is

rose_with : (reply : Reply) (test : Bool) (before now : ℕ) → is_keeper_fault reply ≡ test
    → (¬ (reply ≡ Words KeeperFault) → now ≡ before) → (reply ≡ Words KeeperFault → Rose before now)
    → RoseBy (keeper_faults (reply ∷ [])) before now
rose_with reply true before now is kept rose =
    let R : ℕ → Type 0 = λ n. RoseBy n before now in
    let more : Rose before now = rose (reply_is reply is) in
    subst R (sym (faults_of reply true is)) (omega (arith, more))
rose_with reply false before now is kept rose =
    let R : ℕ → Type 0 = λ n. RoseBy n before now in
    let T : Reply → Type 0 = λ r. is_keeper_fault r ≡ false in
    subst R (sym (faults_of reply false is)) (RoseBy-none before now (kept (λ told. let bad : true ≡ false = subst T told is in cc)))

-- the count rises if the reply reports a fault
pub reply_rose : (reply : Reply) (before now : ℕ) → (¬ (reply ≡ Words KeeperFault) → now ≡ before)
    → (reply ≡ Words KeeperFault → Rose before now) → RoseBy (keeper_faults (reply ∷ [])) before now
reply_rose reply before now kept rose = rose_with reply (is_keeper_fault reply) before now refl kept rose

-- ---- a refusal other than KEEPER_FAULT

not_counted : (refusal : Refusal) (test : Bool) → is_keeper_fault (Words refusal) ≡ test → refusal_status_code refusal ≢ 503
    → keeper_faults (Words refusal ∷ []) ≡ 0
not_counted refusal true is apart =
    absurd (apart (eqb-true (refusal_status_code refusal) 503 is))
not_counted refusal false is apart = faults_of (Words refusal) false is

pub none_counted : (refusal : Refusal) → refusal_status_code refusal ≢ 503 → keeper_faults (Words refusal ∷ []) ≡ 0
none_counted refusal apart = not_counted refusal (is_keeper_fault (Words refusal)) refl apart

pub not_503 : (refusal : Refusal) → keeper_faults (Words refusal ∷ []) ≡ 0 → refusal_status_code refusal ≢ 503
not_503 refusal none same =
    let F : ℕ → ℕ = λ code. length (cond (nat_eq code 503) (Words refusal ∷ []) []) in
    let counted : keeper_faults (Words refusal ∷ []) ≡ 1 = ap F same in
    omega (arith, none, counted)

-- ---- the count didn't rise

more_faults : (reply : Reply) (replies : List Reply) → keeper_faults replies ≤ keeper_faults (reply ∷ replies)
more_faults reply replies = omega (arith, keeper_faults-append (reply ∷ []) replies)

counts_some : (replies : List Reply) → Contains replies (Words KeeperFault) → 1 ≤ keeper_faults replies
counts_some [] (i, within, is) = absurd (omega (arith, within))
counts_some (reply ∷ replies) (zero, within, is) =
    let F : Reply → Type 0 = λ r. 1 ≤ keeper_faults (r ∷ replies) in
    subst F (sym is) (omega (arith, keeper_faults-append (Words KeeperFault ∷ []) replies))
counts_some (reply ∷ replies) (suc i, within, is) =
    let rest : 1 ≤ keeper_faults replies = counts_some replies (i, omega (arith, within), is) in
    omega (arith, rest, more_faults reply replies)

pub none_reported : (replies : List Reply) (before now : ℕ) → RoseBy (keeper_faults replies) before now
    → ¬ (Rose before now) → ¬ (Contains replies (Words KeeperFault))
none_reported replies before now rose still has =
    let some : 1 ≤ keeper_faults replies = counts_some replies has in
    still (omega (arith, rose, some))
