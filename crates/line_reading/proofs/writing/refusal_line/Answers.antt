use Rattle.std.proofs.Common.{◌≡◌, codes, false, refl, sym, subst}
use Rattle.std.specs.Fmt.{digits}
use Rattle.register_words.specs.declared.reply.Refusal.{Refusal}
use Rattle.register_words.specs.declared.reply.Refusal.TheVariants.{NoRoute, Path, TooLong}
use Rattle.register_words.specs.declared.reply.Reply.TheVariants.{Words}
use Rattle.line_reading.specs.Replies.{reply_bytes}
use Rattle.line_reading.proofs.writing.refusal_line.Goals as goal

too_long : codes "413 TOO_LONG\n" ≡ reply_bytes (Words TooLong) false
unfolding reply_bytes digits
too_long = refl

no_route : codes "404 NO_ROUTE\n" ≡ reply_bytes (Words NoRoute) false
unfolding reply_bytes digits
no_route = refl

path : codes "400 PATH\n" ≡ reply_bytes (Words Path) false
unfolding reply_bytes digits
path = refl

pub returns-in-TooLong : goal.returns-in-TooLong
returns-in-TooLong c =
    let P : Refusal → Type 0 = λ refusal. codes "413 TOO_LONG\n" ≡ reply_bytes (Words refusal) false in
    subst P (sym c.in-TooLong.is) too_long

pub returns-in-NoRoute : goal.returns-in-NoRoute
returns-in-NoRoute c =
    let P : Refusal → Type 0 = λ refusal. codes "404 NO_ROUTE\n" ≡ reply_bytes (Words refusal) false in
    subst P (sym c.in-NoRoute.is) no_route

pub returns-in-Path : goal.returns-in-Path
returns-in-Path c =
    let P : Refusal → Type 0 = λ refusal. codes "400 PATH\n" ≡ reply_bytes (Words refusal) false in
    subst P (sym c.in-Path.is) path
