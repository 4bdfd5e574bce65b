use Rattle.std.proofs.Common.{◌∙◌, Some, option_map, sym, refl, subst, arith, List, ℕ}
use Rattle.upload_ledger.specs.declared.ledger.Ledger.TheInside.{Inside}
use Rattle.upload_ledger.specs.Ledgers.{HasRoomFor}
use Rattle.upload_ledger.proofs.KeptLemmas.{kept-room, room-stays}
use Rattle.upload_ledger.proofs.ledger.Ledger.reserve.Goals as goal

pub invariant_of-self-in_err-make_room : goal.invariant_of-self-in_err-make_room
invariant_of-self-in_err-make_room c =
    let old : Inside = c.self.inside in
    let new : Inside = record old { entries = c.reserve.new.self; index = c.make_room.new.index; publications = c.reserve-2.new.self } in
    let same = c.in_err-make_room.ensures.same in
    kept-room old new c.self.invariant c.reserve.ensures.items c.reserve-2.ensures.items same refl refl
    (room-stays old new (option_map (λ s. s.value) old.room) c.reserve.ensures.len c.reserve.ensures.capacity c.reserve-2.ensures.len c.reserve-2.ensures.capacity same c.self.invariant.room)

pub invariant_of-self-2 : goal.invariant_of-self-2
invariant_of-self-2 c =
    let old : Inside = c.self.inside in
    let new : Inside = record old { entries = c.reserve.new.self; index = c.make_room.new.index; publications = c.reserve-2.new.self; room = Some c.of.result } in
    kept-room old new c.self.invariant c.reserve.ensures.items c.reserve-2.ensures.items c.make_room.ensures.same refl refl
    (let P : List ℕ → Type 0 = λ issuer. HasRoomFor new issuer in
    subst P (c.as_slice.ensures ∙ sym c.of.ensures) (record {
      entry = omega (arith, c.in_ok-reserve.ensures.ok);
      publication = omega (arith, c.in_ok-reserve-2.ensures.ok);
      place = c.in_ok-make_room.ensures.room;
    }))
