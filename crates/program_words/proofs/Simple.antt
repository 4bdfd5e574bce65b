-- For each command everything is known.
use Rattle.std.proofs.Common.{◌≡◌, true, refl}
use Rattle.clap.specs.Faults.{is_simple_and_free}
use Rattle.clap.proofs.OnLiterals.{clap_on_literals}
use Rattle.program_words.specs.Commands.{apply_app, check_app, demo_app, digits_app, group_app, lines_app, mirror_app, search_app, serve_app}

pub lines_simple : is_simple_and_free lines_app ≡ true
unfolding clap_on_literals
lines_simple = refl

pub serve_simple : is_simple_and_free serve_app ≡ true
unfolding clap_on_literals
serve_simple = refl

pub apply_simple : is_simple_and_free apply_app ≡ true
unfolding clap_on_literals
apply_simple = refl

pub search_simple : is_simple_and_free search_app ≡ true
unfolding clap_on_literals
search_simple = refl

pub mirror_simple : is_simple_and_free mirror_app ≡ true
unfolding clap_on_literals
mirror_simple = refl

pub group_simple : is_simple_and_free group_app ≡ true
unfolding clap_on_literals
group_simple = refl

pub check_simple : is_simple_and_free check_app ≡ true
unfolding clap_on_literals
check_simple = refl

pub digits_simple : is_simple_and_free digits_app ≡ true
unfolding clap_on_literals
digits_simple = refl

pub demo_simple : is_simple_and_free demo_app ≡ true
unfolding clap_on_literals
demo_simple = refl
