use Rattle.std.proofs.Common.{◌≡◌, [], ◌∷◌, ◌++◌, ap, filter, rules, sym, ◌∙◌}
use Rattle.std.specs.Option.{option_to_list}
use Rattle.std.proofs.lemmas.Fn.{filter_same}
use Rattle.lei_mirror.specs.Mirrors.{is_ahead}
use Rattle.lei_mirror.proofs.keeping.keep.Goals as goal

pub returns-clause-kept : goal.returns-clause-kept
returns-clause-kept c =
    let all : c.push.new.self.items ≡ c.args.kept.now.items ++ c.args.packet ∷ [] = search rules in
    let parts : c.push.new.self.items ≡ c.pop.new.self.items ++ c.in-Some.last ∷ [] =
    c.pop.ensures.items ∙ ap (λ last. c.pop.new.self.items ++ option_to_list last) c.in-Some.is in
    filter_same _ (is_ahead c.in_ok-settled.settled.publication) _ (λ x b q k. search rules) _ _ c.retain.ensures.filtered
    ∙ c.in_ok-keep_ahead.ensures.kept ∙ ap (filter (is_ahead c.in_ok-settled.settled.publication)) (sym parts ∙ all)
