-- What is read at the front of the bytes that are held.
use Rattle.std.proofs.Common.{◌≡◌, ◌⊎◌, ℕ, ◌+◌, ◌≤◌, List, [], ◌++◌, length, true, false, Option, None, Some, inl, inr, refl, sym, ap, subst, arith}
use Rattle.std.specs.Prelude.{is_some, nat_le}
use Rattle.http_heads.specs.Heads.{IsHeadRead}
use Rattle.http_heads.specs.Requests.{IsRequestRead, asked_by_request, request_size}
use Rattle.http_heads.specs.declared.head.Head.{Head}
use Rattle.http_heads.specs.declared.head.HeadRead.{HeadRead}
use Rattle.register_words.specs.Readings.{ReadsAs}
use Rattle.register_words.specs.declared.reply.Refusal.{Refusal}
use Rattle.register_words.specs.declared.request.Asked.{Asked}
use Rattle.request_loop.specs.Frames.{ReadsFront}
use Rattle.request_loop.specs.declared.frames.Front.{Front}
use Rattle.request_loop.specs.declared.frames.Want.{Want}
use Rattle.issuer_http.specs.Responses.{response_bytes}
use Rattle.issuer_http.specs.Frames.{IsAwaited, end_if_last, holds_so, http_rules, refusal_want, want_of_head}
use Rattle.issuer_http.specs.declared.ended.HttpEnd.{HttpEnd}
use Rattle.http_heads.proofs.Reading.{bad_of, head_more, head_some, read_of, waits_of, whole_of}

-- this is read at the front of bytes that are all held
abbrev pub Reads : Option Head → List ℕ → Front Asked HttpEnd → Type 0
Reads awaited held front = ReadsFront http_rules (holds_so awaited) [] held held front

-- all bytes since the last frame are held
pub of_bytes : (old new : Option Head) (held bytes : List ℕ) (front : Front Asked HttpEnd) → holds_so old held bytes
    → Reads new held front → ReadsFront http_rules (holds_so new) [] bytes held front
of_bytes old new held bytes front (same, awaits) reads =
    let R : List ℕ → Type 0 = λ l. ReadsFront http_rules (holds_so new) [] l held front in
    subst R same reads

awaited_more : (held more : List ℕ) (awaited : Option Head) → IsAwaited held awaited → IsAwaited (held ++ more) awaited
awaited_more held more None is = tt
awaited_more held more (Some head) is = head_more held more head is

-- no request is complete
pub reads_more : (held : List ℕ) (awaited : Option Head) → IsRequestRead held HeadRead.More → IsAwaited held awaited
    → Reads awaited held (Front.More 0)
reads_more held awaited read is = record {
  within = omega arith;
  begun = inr read;
  holds = λ more. (refl, awaited_more held more awaited is);
  waits = refl;
}

-- the body isn't complete
pub reads_head : (held : List ℕ) (head : Head) → IsHeadRead held (HeadRead.Whole head)
    → nat_le (request_size head) (length held) ≡ false → Reads (Some head) held (Front.More 0)
reads_head held head read less = reads_more held (Some head) (waits_of held head read less) read

-- a head is refused
pub reads_refusal : (held : List ℕ) (awaited : Option Head) (fault : Refusal) (want : Want Asked HttpEnd)
    → IsHeadRead held (HeadRead.Bad fault) → IsAwaited held awaited → want ≡ refusal_want fault
    → Reads awaited held (Front.Whole (Some want) 0)
reads_refusal held awaited fault want read awaits is =
    let W : Want Asked HttpEnd → Type 0 = λ w. Reads awaited held (Front.Whole (Some w) 0) in
    subst W (sym is) (record {
      within = omega arith;
      some = λ goes. cc;
      meant = Some (refusal_want fault);
      whole = inr (fault, bad_of held fault read, refl, refl);
      are_meant = record { asked = inl refl; ends = refl; text = λ reply. refl };
      holds = (refl, awaits);
      waits = refl;
    })

-- a request is complete
pub reads_request : (held : List ℕ) (head : Head) (asked : Asked) (ends : Option HttpEnd) → IsHeadRead held (HeadRead.Whole head)
    → nat_le (request_size head) (length held) ≡ true → (asked ≡ asked_by_request held head) ⊎ ReadsAs (asked_by_request held head) asked
    → ends ≡ end_if_last head.last
    → Reads None held (Front.Whole (Some (record { asked = asked; ends = ends })) (head.size + head.body))
reads_request held head asked ends read there is same =
    let whole : IsRequestRead held (HeadRead.Whole head) = read_of held head read there in
    let some : 1 ≤ head.size = head_some held head read in
    let fits : request_size head ≤ length held = (whole_of held head whole).fits in
    record {
      within = fits;
      some = λ goes. omega (arith, some);
      meant = Some (want_of_head held head);
      whole = inl (head, whole, refl, refl);
      are_meant = record { asked = is; ends = same; text = λ reply. ap (λ (o : Option HttpEnd). response_bytes (is_some o) reply) same };
      holds = (refl, tt);
      waits = refl;
    }
