use Rattle.std.proofs.Common.{◌++◌, ◌∷◌, [], ap, arith, ◌∙◌}
use Rattle.name_search.proofs.Paging.{after_page, before_page, on_page}
use Rattle.name_search.proofs.gathering.Gathered.add.Goals as goal

pub returns-then-count-start : goal.returns-then-count-start
returns-then-count-start c = λ before gathers. before_page _ before _ _ _ gathers c.if-count-start.true

pub returns-then-len-ge50 : goal.returns-then-len-ge50
returns-then-len-ge50 c = λ before gathers. after_page _ before _ _ c.args.self.now.names.items gathers c.if-count-start.false (omega arith)

pub returns : goal.returns
returns c = λ before gathers.
    on_page _ before _ _ c.args.self.now.names.items _ gathers c.if-count-start.false (omega arith)
    (c.in_ok-push.ensures.items ∙ ap (λ name. c.args.self.now.names.items ++ name ∷ []) c.in_ok-name.ensures)
