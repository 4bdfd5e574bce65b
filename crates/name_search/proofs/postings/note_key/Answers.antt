use Rattle.std.proofs.Common.{◌≡◌, Bool, true, false, cond, refl, ◌∙◌}
use Rattle.name_search.specs.Keys.{is_one_of_keys}
use Rattle.name_search.proofs.postings.note_key.Goals as goal

had : (b t : Bool) → t ≡ true → cond b true t ≡ true
had true t is = refl
had false t is = is

pub returns-clause-stay : goal.returns-clause-stay
returns-clause-stay c = λ k is.
    c.in_ok-insert.ensures.updates.0 k ∙ had _ (is_one_of_keys k c.args.keys.now.keys) is
