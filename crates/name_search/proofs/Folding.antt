-- The characters of texts that are folded.
use Rattle.std.proofs.Common.{◌≡◌, ℕ, ◌<◌, zero, suc, List, [], ◌∷◌, map, ap, arith, sym, ◌∙◌}
use Rattle.std.specs.Prelude.{encode_utf8_all}
use Rattle.std.proofs.lemmas.Bool.Decides.{nat_tests}
use Rattle.std.specs.Char.{to_ascii_lowercase}
use Rattle.std.specs.Str.{IsAscii, IsUtf8, chars}
use Rattle.std.proofs.lemmas.Str.{chars-IsAscii, encodes-chars, encodes_same}
use Rattle.caseless.specs.Caseless.{default_case_fold}
use Rattle.caseless.proofs.CaselessLemmas.{All-chars, default_case_fold-ascii}
use Rattle.unicode_normalization.specs.Forms.{Nfkc}
use Rattle.unicode_normalization.proofs.FormsLemmas.{normalize-ascii}
use Rattle.name_search.specs.Words.{folded_chars}

-- the characters of a text are those that it encodes
chars-is : (bs cs : List ℕ) → IsUtf8 bs → bs ≡ encode_utf8_all cs → chars bs ≡ cs
chars-is bs cs utf8 spells = encodes_same (chars bs) cs (encodes-chars bs utf8 ∙ spells)

pub folded-is : (composed folded cs : List ℕ) → IsUtf8 composed → IsUtf8 folded → composed ≡ encode_utf8_all cs
    → folded ≡ encode_utf8_all (default_case_fold (chars composed)) → chars folded ≡ default_case_fold cs
folded-is composed folded cs composed_utf8 folded_utf8 composes folds =
    chars-is folded (default_case_fold (chars composed)) folded_utf8 folds
    ∙ ap default_case_fold (chars-is composed cs composed_utf8 composes)

-- ---- texts of ASCII

lower_is_ascii : (c : ℕ) → c < 128 → to_ascii_lowercase c < 128
lower_is_ascii c is = grind (arith, nat_tests)

lowers_are_ascii : (text : List ℕ) → IsAscii text → IsAscii (map to_ascii_lowercase text)
lowers_are_ascii [] ascii n = ascii n
lowers_are_ascii (c ∷ cs) ascii zero = lower_is_ascii c (ascii zero)
lowers_are_ascii (c ∷ cs) ascii (suc n) = lowers_are_ascii cs (λ k. ascii (suc k)) n

-- each of them is in Normalization Form KC, and its folding is its lower case
pub lowers_fold : (text folded : List ℕ) → IsAscii text → folded ≡ map to_ascii_lowercase text → chars folded ≡ folded_chars text
unfolding folded_chars
lowers_fold text folded ascii lowers =
    let all = All-chars text ascii in
    ap chars lowers ∙ chars-IsAscii _ (lowers_are_ascii text ascii) ∙ ap (map to_ascii_lowercase) (sym (chars-IsAscii text ascii))
    ∙ sym (ap default_case_fold (normalize-ascii Nfkc (chars text) all) ∙ default_case_fold-ascii (chars text) all)
