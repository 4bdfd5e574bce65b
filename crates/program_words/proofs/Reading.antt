-- What `clap` says of words, as what is read from them.
use Rattle.std.proofs.Common.{◌≡◌, ◌∙◌, Bool, true, false, ◌&&◌, List, [], ◌∷◌, Some, None, refl, sym, ap, inl, inr}
use Rattle.clap.specs.Faults.{fault_of, is_free_app, is_simple_and_free}
use Rattle.clap.specs.Kinds.{HasKind, IsAmong, Kinds}
use Rattle.clap.specs.Simple.{App, built, is_simple, matches_of}
use Rattle.clap.specs.Values.{kind_of}
use Rattle.clap.specs.Walk.{Row, Text}
use Rattle.clap.specs.declared.error.Error.{Error}
use Rattle.clap.specs.declared.error.kind.ErrorKind.{ErrorKind}
use Rattle.clap.specs.declared.error.kind.ErrorKind.TheVariants as kind
use Rattle.program_words.specs.Commands.{read_by, unless_fault}

with_none : (kinds : Kinds) (rows : List Row) → kinds ≡ [] → unless_fault kinds rows ≡ Some rows
with_none [] rows none = refl
with_none (k ∷ ks) rows none = cc

with_some : (kinds : Kinds) (rows : List Row) (one : ErrorKind) → IsAmong one kinds → unless_fault kinds rows ≡ None
with_some [] rows one among = absurd among
with_some (k ∷ ks) rows one among = refl

left_of : (a b : Bool) → (a && b) ≡ true → a ≡ true
left_of true b is = refl
left_of false b is = cc

-- if everything is known of a command, everything is known of its matches
pub is_simple-of : (app : App) → is_simple_and_free app ≡ true → is_simple app ≡ true
is_simple-of app is = left_of (is_simple app) (is_free_app (built app)) is

-- words that are accepted are read
pub read-taken : (app : App) (words : List Text) (rows : List Row) → fault_of app words ≡ [] → rows ≡ matches_of app words → read_by app words ≡ Some rows
unfolding read_by
read-taken app words rows none is = with_none (fault_of app words) (matches_of app words) none ∙ ap Some (sym is)

-- words that are refused for a cause other than memory aren't read
pub read-refused : (app : App) (words : List Text) (fault : Error) → HasKind (fault_of app words) fault → (kind_of fault ≡ kind.OutOfMemory → ⊥)
    → read_by app words ≡ None
unfolding read_by
read-refused app words fault (inl memory) other = absurd (other memory)
read-refused app words fault (inr among) other = with_some (fault_of app words) (matches_of app words) (kind_of fault) among
