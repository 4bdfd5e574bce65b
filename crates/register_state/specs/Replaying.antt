-- The result of replaying a stored entry.
use Rattle.std.specs.Prelude.{◌≡◌, ◌≢◌, Option, Some, None}
use Rattle.lei_values.specs.declared.entry.KeptEntry.{KeptEntry}
use Rattle.lei_shapes.specs.Moment.{IsMoment}
use Rattle.register_words.specs.Requests.{IsRequest}
use Rattle.register_words.specs.declared.request.Request.{Request}
use Rattle.register_history.specs.Replies.{adds, outcome_by, stays}
use Rattle.register_history.specs.State.{OfficeState}
use Rattle.register_state.specs.Books.{office_with_entry}
use Rattle.register_state.specs.declared.decision.Decision.{Decision}
use Rattle.register_state.specs.declared.decision.Decision.TheVariants.{Adds, Stays}

-- The request adds the stored entry by the entry's own rules and at its own moment, and the entry was added. Or this is
-- what the request leads to instead, and nothing was added.
abbrev pub ReplaysRequest : OfficeState → Request → KeptEntry → OfficeState → Option Decision → Type 0
ReplaysRequest before request e after None =
    (outcome_by e.rules before request e.moment ≡ adds e) × IsRequest request × IsMoment e.moment
    × (after ≡ office_with_entry before e)
ReplaysRequest before request e after (Some (Stays reply)) =
    (outcome_by e.rules before request e.moment ≡ stays reply) × (after ≡ before)
ReplaysRequest before request e after (Some (Adds entry list)) =
    (outcome_by e.rules before request e.moment ≡ adds entry) × (entry ≢ e) × (after ≡ before)
