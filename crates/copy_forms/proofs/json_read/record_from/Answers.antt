use Rattle.std.proofs.Common.{false, ◌∙◌}
use Rattle.copy_forms.specs.Json.{json_names}
use Rattle.copy_forms.proofs.JsonFields.{fields-taken}
use Rattle.copy_forms.proofs.JsonRecords.{length-names}
use Rattle.copy_forms.proofs.json_read.record_from.Goals as goal

pub row_by_names-requires : goal.row_by_names-requires
row_by_names-requires c = (fields-taken (json_names c.args.sheet) false _ _ _ c.in_ok-texts.ensures).long ∙ length-names c.args.sheet
