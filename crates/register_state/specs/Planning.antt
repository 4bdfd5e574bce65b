-- Uploads that are judged: the outcome of their items, in their turn or ahead of it.
use Rattle.std.specs.Prelude.{◌≡◌, Bool, true, false, List, map, Ok}
use Rattle.item_fields.specs.Items.{ready}
use Rattle.lei_records.specs.RuleNumbers.{newest, rules_of}
use Rattle.item_fields.specs.declared.item.RawItem.{RawItem}
use Rattle.lei_records.specs.declared.item.Readied.{Readied}
use Rattle.lei_shapes.specs.Moment.{day_of}
use Rattle.register_history.specs.Register.{after}
use Rattle.register_history.specs.State.{OfficeState}
use Rattle.register_history.specs.declared.terms.EntryTerms.{EntryTerms}
use Rattle.register_judge.specs.Agreement.{IsAgreed}
use Rattle.register_judge.specs.Sittings.{sitting_by}
use Rattle.register_judge.specs.Taking.{take}
use Rattle.register_judge.specs.declared.outcome.Outcome.{Outcome}
use Rattle.register_judge.specs.declared.outcome.Plan.{Plan}
use Rattle.register_judge.specs.declared.outcome.Verdict.{Verdict}
use Rattle.register_state.specs.Judging.{ShowsTaken}
use Rattle.register_words.specs.declared.request.Call.{Call}
use Rattle.upload_format.specs.Bodies.{upload}

-- The upload's body has a reading, and these are its items after the checks of their fields by the newest rules.
pub record AreItemsOf (call : Call) (items : List Readied) : Type 0 where
  pub raws : List RawItem
  pub reads : upload call.body ≡ Ok raws
  pub are : items ≡ map (ready newest) raws

-- A plan of an upload by the newest rules. Its body has a reading. On each sound table that agrees with what the plan
-- has read, the outcome of the items on the plan's day is the plan's outcome. That is with room for 4,294,967,295 more
-- records, which is no limit for the at most 5,000 items of a body.
pub record IsPlanOf (call : Call) (plan : Plan) : Type 0 where
  pub raws : List RawItem
  pub reads : upload call.body ≡ Ok raws
  pub agreed : IsAgreed plan.outcome 4294967295 plan.today call.office (map (ready newest) raws)

-- The item is accepted.
abbrev pub is_accepted : Verdict → Bool
is_accepted Verdict.Accepted = true
is_accepted (Verdict.Rejected check) = false

-- The upload's body has a reading, and the outcome is that of its items on these terms on the office's table.
pub record IsTakenBy (office : OfficeState) (call : Call) (terms : EntryTerms) (outcome : Outcome) : Type 0 where
  pub raws : List RawItem
  pub reads : upload call.body ≡ Ok raws
  pub taken : ShowsTaken outcome (take (after office.limits office.history)
      (sitting_by (rules_of terms.rules) office.limits.records (day_of terms.moment) call.office)
      (map (ready (rules_of terms.rules)) raws))
