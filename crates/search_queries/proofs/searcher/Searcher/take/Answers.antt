use Rattle.std.proofs.Common.{rules}
use Rattle.register_words.specs.declared.sheets.Sheet.{Sheet}
use Rattle.copy_forms.specs.Files.{IsDeltaRead}
use Rattle.search_queries.proofs.Taking.{packet_read}
use Rattle.search_queries.proofs.searcher.Searcher.take.Goals as goal

pub take_delta-requires : goal.take_delta-requires
take_delta-requires g c = record { read = (c.args.packet.now, search rules) }

pub returns-in-Ok-clause-takes : goal.returns-in-Ok-clause-takes
returns-in-Ok-clause-takes g c =
    let self = c.args.self.now in
    let read : IsDeltaRead c.args.packet.now Sheet.Lei self.form c.in-Ok.delta = search rules in
    packet_read self.form self.table c.take_delta.new.self.table c.args.packet.now c.in-Ok.delta
    c.take_delta.result read
    c.take_delta.ensures.takes
