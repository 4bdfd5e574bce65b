-- The places by issuer after a change.
use Rattle.std.proofs.Common.{◌≡◌, ℕ, ◌<◌, ◌≤◌, List, [], ◌∷◌, ◌++◌, length, Bool, true, false, cond, ◌&&◌, ◌==◌, bytes_eq, Option, Some, refl, sym, ap, ◌∙◌, subst, arith}
use Rattle.std.specs.BTreeMap.{is_at}
use Rattle.std.specs.Map.{lookup}
use Rattle.std.specs.Cmp.Lexicographic.{slice_cmp}
use Rattle.std.specs.Option.{option_or}
use Rattle.std.specs.Ordering.{nat_cmp}
use Rattle.std.specs.Vec.{vec_len, vec_capacity}
use Rattle.std.proofs.lemmas.Option.{same_Some}
use Rattle.std.proofs.lemmas.Slice.Eq.{bytes_eq-Decides}
use Rattle.lei_code.specs.Code.{IsValid}
use Rattle.lei_values.specs.declared.entry.KeptEntry.{KeptEntry}
use Rattle.upload_ledger.specs.declared.index.IssuerPlaces.{IssuerPlaces}
use Rattle.upload_ledger.specs.History.{History, is_accreditation_of, is_upload_of}
use Rattle.upload_ledger.specs.Index.{AreOf, ArePlaces, HasRoomForIssuer, Index, IsFirstPlace, IsIndex, IsSameIndex, accreditation_place, places_of, uploads_in}
use Rattle.upload_ledger.proofs.PlaceLemmas.{first-push, places-push}

-- what is kept of one issuer was written
abbrev pub Writes : Index → Index → List ℕ → IssuerPlaces → Type 0
Writes old new issuer now = (q : List ℕ) → places_of new q ≡ cond (bytes_eq issuer q) (Some now) (places_of old q)

same-text : (xs ys : List ℕ) → bytes_eq xs ys ≡ true → xs ≡ ys
same-text xs ys is = (bytes_eq-Decides xs ys).0 is

-- ---- nothing that contracts see changed

pub same-entries : (old new : Index) → new.entries ≡ old.entries → IsSameIndex old new
same-entries old new is = record {
  accreditation = λ q. ap accreditation_place (found q);
  uploads = λ q. ap uploads_in (found q);
  room = λ q room. record { places = room.places; found = found q ∙ room.found; spare = room.spare };
}
  where
    found : (q : List ℕ) → places_of new q ≡ places_of old q
    found q = ap (λ es. lookup (is_at (slice_cmp nat_cmp q)) es) is

-- the same was written, with room
pub same-write : (old new : Index) (issuer : List ℕ) (was : Option IssuerPlaces) (now : IssuerPlaces) → places_of old issuer ≡ was → Writes old new issuer now
    → now.accreditation ≡ accreditation_place was → now.uploads.items ≡ uploads_in was
    → ((places : IssuerPlaces) → was ≡ Some places → vec_len places.uploads < vec_capacity places.uploads → vec_len now.uploads < vec_capacity now.uploads)
    → IsSameIndex old new
same-write old new issuer was now held writes same_accreditation same_uploads spare = record {
  accreditation = λ q. by_test accreditation_place same_accreditation q (bytes_eq issuer q) refl;
  uploads = λ q. by_test uploads_in same_uploads q (bytes_eq issuer q) refl;
  room = λ q room. has_room q room (bytes_eq issuer q) refl;
}
  where
    at : (q : List ℕ) → bytes_eq issuer q ≡ true → places_of old q ≡ was
    at q t = ap (places_of old) (sym (same-text issuer q t)) ∙ held

    by_test : {A : Type 0} (part : Option IssuerPlaces → A) → part (Some now) ≡ part was → (q : List ℕ) (b : Bool) → bytes_eq issuer q ≡ b → part (places_of new q) ≡ part (places_of old q)
    by_test part same q true t = ap part (writes q ∙ ap (λ b. cond b (Some now) (places_of old q)) t) ∙ (same ∙ ap part (sym (at q t)))
    by_test part same q false t = ap part (writes q ∙ ap (λ b. cond b (Some now) (places_of old q)) t)

    has_room : (q : List ℕ) → HasRoomForIssuer old q → (b : Bool) → bytes_eq issuer q ≡ b → HasRoomForIssuer new q
    has_room q room true t = record {
      places = now;
      found = writes q ∙ ap (λ b. cond b (Some now) (places_of old q)) t;
      spare = spare room.places (sym (at q t) ∙ room.found) room.spare;
    }
    has_room q room false t = record {
      places = room.places;
      found = (writes q ∙ ap (λ b. cond b (Some now) (places_of old q)) t) ∙ room.found;
      spare = room.spare;
    }

-- what was written has room
pub room-write : (old new : Index) (issuer : List ℕ) (now : IssuerPlaces) → Writes old new issuer now → vec_len now.uploads < vec_capacity now.uploads → HasRoomForIssuer new issuer
room-write old new issuer now writes spare = record {
  places = now;
  found = writes issuer ∙ ap (λ b. cond b (Some now) (places_of old issuer)) ((bytes_eq-Decides issuer issuer).1 refl);
  spare = spare;
}

pub index-same : (history : History) (old new : Index) → IsSameIndex old new → IsIndex history old → IsIndex history new
index-same history old new same is q valid = record {
  accreditation = (let P : Option ℕ → Type 0 = λ o. IsFirstPlace (is_accreditation_of q) history o in subst P (sym (same.accreditation q)) (is q valid).accreditation);
  uploads = (let P : List ℕ → Type 0 = λ l. ArePlaces (is_upload_of q) history l in subst P (sym (same.uploads q)) (is q valid).uploads);
}

-- ---- one more entry

-- what an issuer has after the entry
pushed : (history : History) (e : KeptEntry) (q : List ℕ) (old new : Option IssuerPlaces) → AreOf history q old
    → accreditation_place new ≡ cond (is_accreditation_of q e) (option_or (accreditation_place old) (Some (length history))) (accreditation_place old)
    → uploads_in new ≡ cond (is_upload_of q e) (uploads_in old ++ length history ∷ []) (uploads_in old)
    → AreOf (history ++ e ∷ []) q new
pushed history e q old new are accreditation uploads = record {
  accreditation = (let P : Option ℕ → Type 0 = λ o. IsFirstPlace (is_accreditation_of q) (history ++ e ∷ []) o in
      subst P (sym accreditation) (first-push (is_accreditation_of q) history e (accreditation_place old) are.accreditation));
  uploads = (let P : List ℕ → Type 0 = λ l. ArePlaces (is_upload_of q) (history ++ e ∷ []) l in
      subst P (sym uploads) (places-push (is_upload_of q) history e (uploads_in old) are.uploads));
}

-- an issuer for which another entry is noted, or none
unmatched : {A : Type 0} (kind b : Bool) (x y : A) → b ≡ false → y ≡ cond (kind && b) x y
unmatched true true x y is = cc
unmatched true false x y is = refl
unmatched false b x y is = refl

matched : {A : Type 0} (kind b : Bool) (x y : A) → b ≡ true → cond kind x y ≡ cond (kind && b) x y
matched true true x y is = refl
matched true false x y is = cc
matched false b x y is = refl

-- the entry belongs to no issuer
pub index-other : (history : History) (index : Index) (e : KeptEntry) → (IsValid e.office → ⊥) → IsIndex history index → IsIndex (history ++ e ∷ []) index
index-other history index e never is q valid =
    let other = differs (bytes_eq e.office q) refl in
    pushed history e q (places_of index q) (places_of index q) (is q valid) (unmatched (e.kind == 1) (bytes_eq e.office q) _ _ other) (unmatched (e.kind == 2) (bytes_eq e.office q) _ _ other)
  where
    differs : (b : Bool) → bytes_eq e.office q ≡ b → bytes_eq e.office q ≡ false
    differs true t = absurd (never (let V : List ℕ → Type 0 = λ text. IsValid text in subst V (sym (same-text e.office q t)) valid))
    differs false t = t

-- the entry is noted at its issuer
pub index-note : (history : History) (old new : Index) (e : KeptEntry) (was now : IssuerPlaces) → IsIndex history old → places_of old e.office ≡ Some was → Writes old new e.office now
    → now.accreditation ≡ cond (e.kind == 1) (option_or was.accreditation (Some (length history))) was.accreditation
    → now.uploads.items ≡ cond (e.kind == 2) (was.uploads.items ++ length history ∷ []) was.uploads.items
    → IsIndex (history ++ e ∷ []) new
index-note history old new e was now is held writes accreditation uploads q valid = by_test (bytes_eq e.office q) refl
  where
    by_test : (b : Bool) → bytes_eq e.office q ≡ b → AreOf (history ++ e ∷ []) q (places_of new q)
    by_test true t =
        let at : places_of old q ≡ Some was = ap (places_of old) (sym (same-text e.office q t)) ∙ held in
        let found : places_of new q ≡ Some now = writes q ∙ ap (λ b. cond b (Some now) (places_of old q)) t in
        pushed history e q (places_of old q) (places_of new q) (is q valid)
        (ap accreditation_place found ∙ (accreditation
        ∙ (ap (λ o. cond (e.kind == 1) (option_or (accreditation_place o) (Some (length history))) (accreditation_place o)) (sym at)
        ∙ matched (e.kind == 1) (bytes_eq e.office q) _ _ t)))
        (ap uploads_in found ∙ (uploads
        ∙ (ap (λ o. cond (e.kind == 2) (uploads_in o ++ length history ∷ []) (uploads_in o)) (sym at)
        ∙ matched (e.kind == 2) (bytes_eq e.office q) _ _ t)))
    by_test false t =
        let found : places_of new q ≡ places_of old q = writes q ∙ ap (λ b. cond b (Some now) (places_of old q)) t in
        pushed history e q (places_of old q) (places_of new q) (is q valid)
        (ap accreditation_place found ∙ unmatched (e.kind == 1) (bytes_eq e.office q) _ _ t)
        (ap uploads_in found ∙ unmatched (e.kind == 2) (bytes_eq e.office q) _ _ t)

-- room was made at the issuer
pub reserved : (old new : Index) (issuer : List ℕ) (was now : IssuerPlaces) → places_of old issuer ≡ Some was → Writes old new issuer now → now.accreditation ≡ was.accreditation
    → now.uploads.items ≡ was.uploads.items → vec_len now.uploads ≡ vec_len was.uploads → vec_capacity was.uploads ≤ vec_capacity now.uploads → IsSameIndex old new
reserved old new issuer was now held writes accreditation uploads same more =
    same-write old new issuer (Some was) now held writes accreditation uploads
    (λ places is spare. (let F : IssuerPlaces → Type 0 = λ p. vec_len p.uploads < vec_capacity p.uploads in
    let had = subst F (sym (same_Some was places is)) spare in omega (arith, had, same, more)))
