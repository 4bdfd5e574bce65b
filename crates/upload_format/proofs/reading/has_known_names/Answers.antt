use Rattle.std.proofs.Common.{rules, tests, string_bytes, ap, ◌∙◌}
use Rattle.std.proofs.lemmas.Iterator.Search.{all_from_yields_List}
use Rattle.std.proofs.lemmas.Iterator.Consumers.{YieldsList-from_rest}
use Rattle.std.specs.List.{list_all}
use Rattle.upload_format.specs.Bodies.{is_list_name}
use Rattle.upload_format.proofs.Loops.{list_all-member_names}
use Rattle.upload_format.proofs.reading.has_known_names.Goals as goal

pub returns : goal.returns
returns c =
    all_from_yields_List (λ k. is_list_name (string_bytes k)) _ _ _ c.all.ensures.ran (YieldsList-from_rest c.keys.result cc) (λ x b q k. search (rules, tests))
    ∙ (ap (λ ks. list_all (λ k. is_list_name (string_bytes k)) ks) c.keys.ensures.rest ∙ list_all-member_names is_list_name c.args.members.now.entries)
