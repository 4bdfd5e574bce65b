use Rattle.std.proofs.Common.{◌∙◌, ap}
use Rattle.lei_code.specs.Fault.{fault_of}
use Rattle.register_demo.proofs.CodeTexts.{manager-is}
use Rattle.register_demo.proofs.codes.issuer_of.Goals as goal

pub unreachable-requires : goal.unreachable-requires
unreachable-requires c =
    let clash = c.in-Err.ensures.computed ∙ ap fault_of (c.as_bytes.ensures.value ∙ c.manager.ensures) ∙ manager-is c.args.block in cc
