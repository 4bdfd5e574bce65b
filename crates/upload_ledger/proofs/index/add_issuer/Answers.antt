use Rattle.std.proofs.Common.{◌∙◌, ap, cond, Some, None, rules, arith, refl}
use Rattle.std.proofs.lemmas.Map.Text.{is_eq-slice_cmp}
use Rattle.upload_ledger.specs.declared.index.IssuerPlaces.{IssuerPlaces}
use Rattle.upload_ledger.specs.Index.{places_of}
use Rattle.upload_ledger.proofs.IndexLemmas.{room-write, same-entries, same-write}
use Rattle.upload_ledger.proofs.index.add_issuer.Goals as goal

pub returns-in_err-insert-clause-same : goal.returns-in_err-insert-clause-same
returns-in_err-insert-clause-same c = same-entries c.args.index.now c.insert.new.self c.in_err-insert.ensures.err

pub returns-clause-same : goal.returns-clause-same
returns-clause-same c =
    let places : IssuerPlaces = record { accreditation = None; uploads = c.in_ok-uploads.uploads } in
    same-write c.args.index.now c.insert.new.self c.args.issuer None places c.requires
    (λ q. c.in_ok-insert.ensures.updates.0 q ∙ ap (λ b. cond b (Some places) (places_of c.args.index.now q)) (is_eq-slice_cmp c.args.issuer q))
    refl c.in_ok-uploads.ensures.items (λ p is spare. search rules)

pub returns-clause-room : goal.returns-clause-room
returns-clause-room c =
    let places : IssuerPlaces = record { accreditation = None; uploads = c.in_ok-uploads.uploads } in
    room-write c.args.index.now c.insert.new.self c.args.issuer places
    (λ q. c.in_ok-insert.ensures.updates.0 q ∙ ap (λ b. cond b (Some places) (places_of c.args.index.now q)) (is_eq-slice_cmp c.args.issuer q))
    (omega (arith, c.in_ok-uploads.ensures.len, c.in_ok-uploads.ensures.capacity))
