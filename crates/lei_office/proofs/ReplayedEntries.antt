-- What is decided instead of a stored entry.
use Rattle.std.proofs.Common.{◌≡◌, Some, None, refl}
use Rattle.lei_values.specs.declared.entry.KeptEntry.{KeptEntry}
use Rattle.register_words.specs.declared.request.Request.{Request}
use Rattle.register_history.specs.Damage.{replayed_text, stored_request}
use Rattle.register_history.specs.Legal.{IsNext}
use Rattle.register_history.specs.State.{OfficeState}
use Rattle.register_history.proofs.AskedFor.{adds-differs, adds-next, stays-differs}
use Rattle.register_state.specs.Replaying.{ReplaysRequest}
use Rattle.register_state.specs.declared.decision.Decision.{Decision}
use Rattle.register_state.specs.declared.decision.Decision.TheVariants.{Adds, Stays}
use Rattle.lei_office.specs.Opening.{Replays, decision_text}

-- something else is decided
pub decided-differs : (before after : OfficeState) (e : KeptEntry) (request : Request) (decision : Decision) → stored_request before.history e ≡ Some request → ReplaysRequest before request e after (Some decision)
    → (IsNext before e → ⊥) × (decision_text decision ≡ replayed_text before e)
decided-differs before after e request (Stays reply) asked is = stays-differs before e request reply asked is.0
decided-differs before after e request (Adds made list) asked is = adds-differs before e request made asked is.0 is.1

-- the entry is added
pub decided-adds : (before after : OfficeState) (e : KeptEntry) (request : Request) → stored_request before.history e ≡ Some request → ReplaysRequest before request e after None → Replays before e after None
decided-adds before after e request asked is = (adds-next before e request e asked is.0 refl is.1 is.2, is.3)
