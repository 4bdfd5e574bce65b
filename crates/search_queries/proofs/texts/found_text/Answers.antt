use Rattle.std.proofs.Common.{Bool, false, ◌||◌, ap, ◌∙◌}
use Rattle.serde_json.specs.Written.{compact_text}
use Rattle.search_queries.specs.Answers.{found_answer, found_value}
use Rattle.search_queries.proofs.NameValues.{names_have_no_float}
use Rattle.search_queries.proofs.texts.found_text.Goals as goal

pub returns : goal.returns
returns c =
    let matches = c.args.found.now.matches in
    let page = c.args.page in
    let is = c.in_ok-answer.ensures ∙ ap (λ names. found_value matches names page) c.in_ok-names.ensures in
    let whole = is ∙ ap (λ names. found_answer matches names page) c.as_slice.ensures in
    c.from.ensures ∙ c.in_ok-to_vec.ensures.text
    (rw is (ap (λ (b : Bool). b || false) (names_have_no_float c.as_slice.result.now))) ∙ ap compact_text whole
