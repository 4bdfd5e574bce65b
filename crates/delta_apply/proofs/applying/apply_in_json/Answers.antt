use Rattle.std.proofs.Common.{Err, ap}
use Rattle.delta_apply.proofs.Answering.{json-answer, json-some_copy}
use Rattle.delta_apply.proofs.applying.apply_in_json.Goals as goal

pub returns-in-Err-NotRead : goal.returns-in-Err-NotRead
returns-in-Err-NotRead c = c.in-Err-NotRead.ensures.only (ap Err c.in-Err-NotRead.field-0-is)

pub returns-in-Err-NotRead-read_delta : goal.returns-in-Err-NotRead-read_delta
returns-in-Err-NotRead-read_delta c = (
  json-some_copy c.args.copy.now c.args.sheet c.in-Ok.read c.in-Ok.ensures.found,
  c.in-Err-NotRead-read_delta.ensures.only (ap Err c.in-Err-NotRead-read_delta.field-0-is),
)

pub returns : goal.returns
returns c =
    json-answer c.args.copy.now c.args.delta.now c.args.sheet c.in-Ok.read c.in-Ok-read_delta.read c.in-Ok.ensures.found c.in-Ok-read_delta.ensures.found
    c.patch_read.result c.patch_read.ensures
