use Rattle.std.proofs.Common.{ap, arith, length}
use Rattle.upload_ledger.specs.History.{is_upload_of}
use Rattle.upload_ledger.specs.Index.{places_of, uploads_in}
use Rattle.upload_ledger.proofs.KeptLemmas.{places-few}
use Rattle.upload_ledger.proofs.ledger.Ledger.last.Goals as goal

pub overflow_cast-result : goal.overflow_cast-result
overflow_cast-result c =
    let few = places-few (is_upload_of c.args.office.now) c.self.inside.entries.items (uploads_in (places_of c.self.inside.index c.args.office.now))
    (c.self.invariant.index c.args.office.now c.uploads.ensures.lei).uploads c.self.invariant.few in
    omega (arith, few, ap length c.uploads.ensures.places)

pub returns-clause-few : goal.returns-clause-few
returns-clause-few c =
    let few = places-few (is_upload_of c.args.office.now) c.self.inside.entries.items (uploads_in (places_of c.self.inside.index c.args.office.now))
    (c.self.invariant.index c.args.office.now c.uploads.ensures.lei).uploads c.self.invariant.few in
    omega (arith, few, ap length c.uploads.ensures.places)
