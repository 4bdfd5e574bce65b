use Rattle.std.proofs.Common.{string_bytes, ap, ◌∙◌}
use Rattle.std.specs.Prelude.{encode_utf8_all}
use Rattle.std.specs.Str.{chars}
use Rattle.std.proofs.lemmas.Str.{IsUtf8-string_bytes}
use Rattle.caseless.specs.Caseless.{default_case_fold}
use Rattle.name_search.specs.Words.{folded_chars}
use Rattle.name_search.proofs.Folding.{folded-is, lowers_fold}
use Rattle.name_search.proofs.words.folded_text.Goals as goal

pub returns-then-is_ascii : goal.returns-then-is_ascii
returns-then-is_ascii c =
    lowers_fold c.args.text.now (string_bytes c.in_ok-to_ascii_lowercase.field-0) c.if-is_ascii.ensures.cases c.in_ok-to_ascii_lowercase.ensures.ok

pub returns : goal.returns
unfolding folded_chars
returns c =
    folded-is (string_bytes c.in_ok-composed.composed) (string_bytes c.in_ok-folded.folded) _ (IsUtf8-string_bytes c.in_ok-composed.composed) (IsUtf8-string_bytes c.in_ok-folded.folded)
    c.in_ok-composed.ensures
    (c.in_ok-folded.ensures ∙ ap (λ bs. encode_utf8_all (default_case_fold (chars bs))) c.as_str.ensures.value)
