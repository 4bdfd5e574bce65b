use Rattle.std.proofs.Common.{refl}
use Rattle.json.specs.Print.{escape_byte}
use Rattle.copy_forms.specs.JsonReading.{escapes}
use Rattle.copy_forms.proofs.json_strings.escape_table.Goals as goal

pub returns : goal.returns
unfolding escapes escape_byte
returns c = refl
