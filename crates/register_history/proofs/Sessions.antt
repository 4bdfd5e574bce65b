-- Replies if memory never runs out.
use Rattle.std.proofs.Common.{◌≡◌, suc, ℤ, List, [], ◌∷◌, ◌++◌, Contains, refl, sym, ap, ◌∙◌, arith, inl, inr}
use Rattle.register_words.specs.declared.reply.Refusal.TheVariants.{KeeperFault, NoMemory}
use Rattle.register_words.specs.declared.reply.Reply.{Reply}
use Rattle.register_words.specs.declared.reply.Reply.TheVariants.{Words}
use Rattle.register_words.specs.declared.request.Asked.{Asked}
use Rattle.register_words.specs.declared.request.Asked.TheVariants.{Ask, Refuse}
use Rattle.register_history.specs.Replies.{next, reply}
use Rattle.register_history.specs.Legal.{OfficeSession, replies_to}
use Rattle.register_history.specs.State.{OfficeState}

-- a list that lacks an item has a different first one, and its rest lacks the item
first-is_other : {X : Type 0} (x y : X) (ys : List X) → ¬ (Contains (y ∷ ys) x) → y ≡ x → ⊥
first-is_other x y ys lacks is = lacks (0, omega arith, is)

rest-lacks : {X : Type 0} (x y : X) (ys : List X) → ¬ (Contains (y ∷ ys) x) → ¬ (Contains ys x)
rest-lacks x y ys lacks has = lacks (suc has.0, omega (arith, has.1), has.2)

pub exact : (asks : List Asked) (old new : OfficeState) (moments : List ℤ) (replies : List Reply) → OfficeSession old asks moments replies new → ¬ (Contains replies (Words NoMemory)) → ¬ (Contains replies (Words KeeperFault)) → replies ≡ replies_to old asks moments
exact [] old new moments [] session lacks kept = refl
exact [] old new moments (answered ∷ replies) session lacks kept = absurd session
exact (asked ∷ asks) old new moments [] session lacks kept = absurd session
exact (Refuse refusal ∷ asks) old new moments (answered ∷ replies) (given, rest, between, parts, step, others) lacks kept =
    let all : rest ≡ moments = sym (parts ∙ ap (λ (t : List ℤ). t ++ rest) step.0) in
    let told : replies ≡ replies_to old asks moments = exact asks between new rest replies others (rest-lacks (Words NoMemory) answered replies lacks) (rest-lacks (Words KeeperFault) answered replies kept) ∙ (ap (λ (h : OfficeState). replies_to h asks rest) step.2 ∙ ap (replies_to old asks) all) in
    ap (λ (r : Reply). r ∷ replies) step.1 ∙ ap (λ (l : List Reply). Words refusal ∷ l) told
exact (Ask request ∷ asks) old new moments (answered ∷ replies) (given, rest, between, parts, inl (m, is, inl step), others) lacks kept =
    let all : m ∷ rest ≡ moments = sym (parts ∙ ap (λ (t : List ℤ). t ++ rest) is) in
    let told : replies ≡ replies_to (next old request m) asks rest = exact asks between new rest replies others (rest-lacks (Words NoMemory) answered replies lacks) (rest-lacks (Words KeeperFault) answered replies kept) ∙ ap (λ (h : OfficeState). replies_to h asks rest) step.1 in
    ap (λ (r : Reply). r ∷ replies) step.0 ∙ (ap (λ (l : List Reply). reply old request m ∷ l) told ∙ ap (replies_to old (Ask request ∷ asks)) all)
exact (Ask request ∷ asks) old new moments (answered ∷ replies) (given, rest, between, parts, inl (m, is, inr (inl wanting)), others) lacks kept = absurd (first-is_other (Words NoMemory) answered replies lacks wanting.0)
exact (Ask request ∷ asks) old new moments (answered ∷ replies) (given, rest, between, parts, inl (m, is, inr (inr failing)), others) lacks kept = absurd (first-is_other (Words KeeperFault) answered replies kept failing.0)
exact (Ask request ∷ asks) old new moments (answered ∷ replies) (given, rest, between, parts, inr wanting, others) lacks kept = absurd (first-is_other (Words NoMemory) answered replies lacks wanting.2)
