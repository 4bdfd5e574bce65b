use Rattle.std.proofs.Common.{◌∙◌, ap, sym, cond, Some, rules, arith, refl}
use Rattle.std.proofs.lemmas.Map.Text.{is_eq-slice_cmp}
use Rattle.upload_ledger.specs.declared.index.IssuerPlaces.{IssuerPlaces}
use Rattle.upload_ledger.specs.Index.{places_of}
use Rattle.upload_ledger.proofs.IndexLemmas.{room-write, reserved}
use Rattle.upload_ledger.proofs.index.make_issuer_room.Goals as goal

pub returns-in_err-reserve-in-Some-clause-same : goal.returns-in_err-reserve-in-Some-clause-same
returns-in_err-reserve-in-Some-clause-same c =
    let places : IssuerPlaces = record { accreditation = c.in-Some.places.now.accreditation; uploads = c.reserve.new.self } in
    reserved c.args.index.now (c.get_mut.follows.lender places) c.args.issuer c.in-Some.places.now places (sym c.in-Some.ensures.value)
    (λ q. ((c.get_mut.follows.holds places).3 (search rules)).0 q ∙ ap (λ b. cond b (Some places) (places_of c.args.index.now q)) (is_eq-slice_cmp c.args.issuer q))
    refl c.reserve.ensures.items c.reserve.ensures.len c.reserve.ensures.capacity

pub returns-in_ok-reserve-in-Some-clause-same : goal.returns-in_ok-reserve-in-Some-clause-same
returns-in_ok-reserve-in-Some-clause-same c =
    let places : IssuerPlaces = record { accreditation = c.in-Some.places.now.accreditation; uploads = c.reserve.new.self } in
    reserved c.args.index.now (c.get_mut.follows.lender places) c.args.issuer c.in-Some.places.now places (sym c.in-Some.ensures.value)
    (λ q. ((c.get_mut.follows.holds places).3 (search rules)).0 q ∙ ap (λ b. cond b (Some places) (places_of c.args.index.now q)) (is_eq-slice_cmp c.args.issuer q))
    refl c.reserve.ensures.items c.reserve.ensures.len c.reserve.ensures.capacity

pub returns-in_ok-reserve-in-Some-clause-room : goal.returns-in_ok-reserve-in-Some-clause-room
returns-in_ok-reserve-in-Some-clause-room c =
    let places : IssuerPlaces = record { accreditation = c.in-Some.places.now.accreditation; uploads = c.reserve.new.self } in
    room-write c.args.index.now (c.get_mut.follows.lender places) c.args.issuer places
    (λ q. ((c.get_mut.follows.holds places).3 (search rules)).0 q ∙ ap (λ b. cond b (Some places) (places_of c.args.index.now q)) (is_eq-slice_cmp c.args.issuer q))
    (omega (arith, c.in_ok-reserve-in-Some.ensures.ok))
