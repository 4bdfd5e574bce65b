-- The commands of the program as `clap` reads them: one simple command for each first word, without subcommands. This
-- project's profile.
use Rattle.std.specs.Prelude.{List, [], ◌∷◌, true, codes, Option, Some, None}
use Rattle.lei_code.specs.Texts.{Text}
use Rattle.clap.specs.Kinds.{Kinds}
use Rattle.clap.specs.Walk.{Row}
use Rattle.clap.specs.Simple.{App, matches_of, new_rule, new_shape, with_rule}
use Rattle.clap.specs.Faults.{fault_of}
use Rattle.clap.specs.declared.builder.action.ArgAction.TheVariants.{Set}

-- A command with this name that has no option yet, not even one for help. All words that it is given are its arguments.
abbrev pub plain : Text → App
plain name = record {
  top = record (new_shape name) { no_binary_name = true; disable_help_flag = true };
  subs = [];
}

-- the command with an option of this name, as in `--name TEXT` and `--name=TEXT`, which may occur once
abbrev pub with_option : Text → App → App
with_option name app = with_rule app (record (new_rule name) { long = Some name; action = Some Set })

-- the command with one more text, which comes after the previous ones
abbrev pub app_with_text : Text → App → App
app_with_text name app = with_rule app (record (new_rule name) { action = Some Set })

-- `lines [--store PATH]`
abbrev pub lines_app : App
lines_app = with_option (codes "store") (plain (codes "lines"))

-- `serve --port P --workers W [--connections N] [--store PATH]`
abbrev pub serve_app : App
serve_app = with_option (codes "store") (with_option (codes "connections")
    (with_option (codes "workers") (with_option (codes "port") (plain (codes "serve")))))

-- `apply TABLE FORM COPY DELTA`
abbrev pub apply_app : App
apply_app = app_with_text (codes "DELTA") (app_with_text (codes "COPY")
    (app_with_text (codes "FORM") (app_with_text (codes "TABLE") (plain (codes "apply")))))

-- `search FORM COPY`
abbrev pub search_app : App
search_app = app_with_text (codes "COPY") (app_with_text (codes "FORM") (plain (codes "search")))

-- `mirror`
abbrev pub mirror_app : App
mirror_app = plain (codes "mirror")

-- `group WHO FORM LEICOPY RRCOPY`
abbrev pub group_app : App
group_app = app_with_text (codes "RRCOPY") (app_with_text (codes "LEICOPY")
    (app_with_text (codes "FORM") (app_with_text (codes "WHO") (plain (codes "group")))))

-- `check CODE`
abbrev pub check_app : App
check_app = app_with_text (codes "CODE") (plain (codes "check"))

-- `digits TEXT`
abbrev pub digits_app : App
digits_app = app_with_text (codes "TEXT") (plain (codes "digits"))

-- `demo N`
abbrev pub demo_app : App
demo_app = app_with_text (codes "N") (plain (codes "demo"))

-- the texts, unless there is a fault
abbrev pub unless_fault : Kinds → List Row → Option (List Row)
unless_fault [] rows = Some rows
unless_fault (fault ∷ faults) rows = None

-- What `clap`'s stated reading makes of the words after the first, by this command. It gives the texts under their
-- names, or nothing if it refuses the words.
unfoldable pub read_by : App → List Text → Option (List Row)
read_by app words = unless_fault (fault_of app words) (matches_of app words)
