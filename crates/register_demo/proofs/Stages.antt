-- Requests, one after the other.
use Rattle.std.proofs.Common.{◌≡◌, ℕ, suc, ◌+◌, ◌-◌, ◌≤◌, ◌<◌, ℤ, Bool, true, false, cond, List, [], ◌∷◌, ◌++◌, length, map, inl, inr, refl, sym, ap, subst, ◌∙◌, arith, append_assoc}
use Rattle.std.specs.Prelude.{count_by}
use Rattle.std.specs.List.{range_with_len}
use Rattle.std.proofs.lemmas.List.Sums.{sum_by-cons}
use Rattle.std.specs.Int.{from_bool}
use Rattle.std.proofs.lemmas.List.FromFn.{length-map-range_with_len}
use Rattle.register_words.specs.declared.reply.Reply.{Reply}
use Rattle.register_words.specs.declared.reply.Reply.TheVariants.{Words}
use Rattle.register_words.specs.declared.reply.Refusal.TheVariants.{KeeperFault, NoMemory}
use Rattle.register_words.specs.declared.request.Request.{Request}
use Rattle.register_history.specs.Replies.{next, reply, Step}
use Rattle.register_history.specs.State.{OfficeState}
use Rattle.register_demo.specs.Plan.{block_count}
use Rattle.register_demo.specs.Requests.{RepliesFrom, demo_upload, office_from, replies_from, request_moment, uploads_from, uploads_of}
use Rattle.register_demo.specs.Session.{is_ok_reply, text_in_reply, texts_of_replies}
use Rattle.register_demo.specs.declared.plan.Group.{Group}

-- what was done for a list of requests, of which some are left: the texts of the answers, the count of replies with the
-- status code 200, and the office
pub record Sending (from : OfficeState) (begin : ℕ) (all : List Request) (old : List ℕ) (office : OfficeState) (count : ℕ) (left : List Request)
    (answers : List ℕ) (told : ℕ) : Type 0 where
  pub texts : answers ++ texts_of_replies (replies_from office count left) ≡ old ++ texts_of_replies (replies_from from begin all)
  pub counts : told + count_by is_ok_reply (replies_from office count left) ≡ count_by is_ok_reply (replies_from from begin all)
  pub leads : office_from office count left ≡ office_from from begin all

-- nothing was done
pub sending-none : (from : OfficeState) (begin : ℕ) (all : List Request) (old : List ℕ) → Sending from begin all old from begin all old 0
sending-none from begin all old = record { texts = refl; counts = omega arith; leads = refl }

-- a test as a number
pub bool-is : (b : Bool) → from_bool b ≡ cond b 1 0
bool-is b = elim b as (λ v. from_bool v ≡ cond v 1 0) [ true ↦ refl | false ↦ refl ]

pub bool-most : (b : Bool) → from_bool b ≤ 1
bool-most b = elim b as (λ v. from_bool v ≤ 1) [ true ↦ omega arith | false ↦ omega arith ]

count-one : (told : ℕ) (was : Bool) (more : ℕ) → (told + cond was 1 0) + more ≡ told + (cond was 1 0 + more)
count-one told was more = omega arith

count-step : (answered : Reply) (rest : List Reply) → count_by is_ok_reply (answered ∷ rest) ≡ cond (is_ok_reply answered) 1 0 + count_by is_ok_reply rest
count-step answered rest = sum_by-cons (λ r. cond (is_ok_reply r) 1 0) answered rest

-- one more was answered
pub sending-more : (from : OfficeState) (begin : ℕ) (all : List Request) (old : List ℕ) (office after : OfficeState) (count count' : ℕ) (left rest : List Request)
    (request : Request) (answers answers' : List ℕ) (told told' : ℕ) → Sending from begin all old office count left answers told
    → left ≡ request ∷ rest → count' ≡ count + 1 → after ≡ next office request (request_moment count)
    → answers' ≡ answers ++ text_in_reply (reply office request (request_moment count))
    → told' ≡ told + cond (is_ok_reply (reply office request (request_moment count))) 1 0
    → Sending from begin all old after count' rest answers' told'
sending-more from begin all old office after count count' left rest request answers answers' told told' is cut more leads texts counts =
    let L : List Request → Type 0 = λ requests. Sending from begin all old office count requests answers told in
    let now : L (request ∷ rest) = subst L cut is in
    let answered = reply office request (request_moment count) in
    let behind = replies_from (next office request (request_moment count)) (count + 1) rest in
    let O : OfficeState → Type 0 = λ state. Sending from begin all old state count' rest answers' told' in
    let C : ℕ → Type 0 = λ k. Sending from begin all old (next office request (request_moment count)) k rest answers' told' in
    subst O (sym leads) (subst C (sym more) (record {
      texts = ap (λ xs. xs ++ texts_of_replies behind) texts ∙ append_assoc answers (text_in_reply answered) (texts_of_replies behind) ∙ now.texts;
      counts = ap (λ n. n + count_by is_ok_reply behind) counts ∙ count-one told (is_ok_reply answered) (count_by is_ok_reply behind)
          ∙ ap (λ n. told + n) (sym (count-step answered behind)) ∙ now.counts;
      leads = now.leads;
    }))

-- all were answered
pub sending-all : (from : OfficeState) (begin : ℕ) (all : List Request) (old : List ℕ) (office : OfficeState) (count : ℕ) (left : List Request)
    (answers : List ℕ) (told : ℕ) → Sending from begin all old office count left answers told → left ≡ [] → Sending from begin all old office count [] answers told
sending-all from begin all old office count left answers told is none =
    let L : List Request → Type 0 = λ requests. Sending from begin all old office count requests answers told in subst L none is

-- ---- the uploads of blocks

-- the uploads starting with a block are its own and those starting with the next block
pub uploads-cut : (group : Group) (n block blocks : ℕ) → block < blocks + 1
    → uploads_from group n block (blocks + 1 - block) ≡ demo_upload group n block ∷ uploads_from group n (block + 1) (blocks + 1 - (block + 1))
uploads-cut group n block blocks within =
    let some : blocks + 1 - block ≡ suc (blocks + 1 - (block + 1)) = omega arith in ap (uploads_from group n block) some

-- after the last block there are no uploads
pub uploads-none : (group : Group) (n block blocks : ℕ) → blocks + 1 ≤ block → uploads_from group n block (blocks + 1 - block) ≡ []
uploads-none group n block blocks beyond = let none : blocks + 1 - block ≡ 0 = omega arith in ap (uploads_from group n block) none

-- how many uploads there are
pub length-uploads : (group : Group) (n : ℕ) → length (uploads_of group n) ≡ block_count n
length-uploads group n = length-map-range_with_len (demo_upload group n) 1 (block_count n)

-- ---- one request

-- a step that didn't run out of memory, and at which the keeper didn't fail
pub answered-step : (old new : OfficeState) (request : Request) (moment : ℤ) (answered : Reply) → Step old request moment answered new
    → ¬ (answered ≡ Words NoMemory) → ¬ (answered ≡ Words KeeperFault) → (answered ≡ reply old request moment) × (new ≡ next old request moment)
answered-step old new request moment answered step some sure = elim step [
  | inl is ↦ is
  | inr (inl wanting) ↦ absurd (some wanting.0)
  | inr (inr failed) ↦ absurd (sure failed.0)
]

-- a single request
pub answers-one : (office after : OfficeState) (count : ℕ) (request : Request) (answered : Reply) → answered ≡ reply office request (request_moment count)
    → after ≡ next office request (request_moment count) → RepliesFrom office count (request ∷ []) (answered ∷ []) after
answers-one office after count request answered is leads = record { told = ap (λ r. r ∷ []) is; leads = leads }

-- ---- requests after others

pub length-replies : (office : OfficeState) (count : ℕ) (requests : List Request) → length (replies_from office count requests) ≡ length requests
length-replies office count [] = refl
length-replies office count (request ∷ requests) = ap suc (length-replies (next office request (request_moment count)) (count + 1) requests)

replies-append : (office : OfficeState) (count behind : ℕ) (xs ys : List Request) → behind ≡ count + length xs
    → replies_from office count (xs ++ ys) ≡ replies_from office count xs ++ replies_from (office_from office count xs) behind ys
replies-append office count behind [] ys is = let same : count ≡ behind = omega (arith, is) in ap (λ k. replies_from office k ys) same
replies-append office count behind (x ∷ xs) ys is =
    ap (λ others. reply office x (request_moment count) ∷ others)
    (replies-append (next office x (request_moment count)) (count + 1) behind xs ys (omega (arith, is)))

office-append : (office : OfficeState) (count behind : ℕ) (xs ys : List Request) → behind ≡ count + length xs
    → office_from office count (xs ++ ys) ≡ office_from (office_from office count xs) behind ys
office-append office count behind [] ys is = let same : count ≡ behind = omega (arith, is) in ap (λ k. office_from office k ys) same
office-append office count behind (x ∷ xs) ys is =
    office-append (next office x (request_moment count)) (count + 1) behind xs ys (omega (arith, is))

-- requests, followed by more requests
pub answers-append : (office between after : OfficeState) (count behind : ℕ) (xs ys : List Request) (rs ss : List Reply)
    → RepliesFrom office count xs rs between → RepliesFrom between behind ys ss after → behind ≡ count + length xs → RepliesFrom office count (xs ++ ys) (rs ++ ss) after
answers-append office between after count behind xs ys rs ss first second is = record {
  told = ap (λ r. r ++ ss) first.told ∙ ap (λ s. replies_from office count xs ++ s) (second.told ∙ ap (λ o. replies_from o behind ys) first.leads)
      ∙ sym (replies-append office count behind xs ys is);
  leads = second.leads ∙ ap (λ o. office_from o behind ys) first.leads ∙ sym (office-append office count behind xs ys is);
}

-- all uploads of a group
pub answers-uploads : (office after : OfficeState) (count : ℕ) (requests : List Request) → after ≡ office_from office count requests
    → RepliesFrom office count requests (replies_from office count requests) after
answers-uploads office after count requests leads = record { told = refl; leads = leads }

-- two requests, and three
pub answers-two : (o1 o2 o3 : OfficeState) (count : ℕ) (x y : Request) (r s : Reply)
    → r ≡ reply o1 x (request_moment count) → o2 ≡ next o1 x (request_moment count)
    → s ≡ reply o2 y (request_moment (count + 1)) → o3 ≡ next o2 y (request_moment (count + 1)) → RepliesFrom o1 count (x ∷ y ∷ []) (r ∷ s ∷ []) o3
answers-two o1 o2 o3 count x y r s a b c d =
    answers-append o1 o2 o3 count (count + 1) (x ∷ []) (y ∷ []) (r ∷ []) (s ∷ []) (answers-one o1 o2 count x r a b)
    (answers-one o2 o3 (count + 1) y s c d) refl

pub answers-three : (o1 o2 o3 o4 : OfficeState) (count : ℕ) (x y z : Request) (r s t : Reply)
    → r ≡ reply o1 x (request_moment count) → o2 ≡ next o1 x (request_moment count)
    → s ≡ reply o2 y (request_moment (count + 1)) → o3 ≡ next o2 y (request_moment (count + 1))
    → t ≡ reply o3 z (request_moment (count + 2)) → o4 ≡ next o3 z (request_moment (count + 2)) → RepliesFrom o1 count (x ∷ y ∷ z ∷ []) (r ∷ s ∷ t ∷ []) o4
answers-three o1 o2 o3 o4 count x y z r s t a b c d e f =
    answers-append o1 o3 o4 count (count + 2) (x ∷ y ∷ []) (z ∷ []) (r ∷ s ∷ []) (t ∷ []) (answers-two o1 o2 o3 count x y r s a b c d)
    (answers-one o3 o4 (count + 2) z t e f) refl
