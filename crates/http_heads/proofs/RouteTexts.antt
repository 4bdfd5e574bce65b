-- The words of an ASCII path are texts.
use Rattle.std.proofs.Common.{◌≡◌, ◌⊎◌, ℕ, zero, suc, ◌-◌, ◌<◌, List, [], ◌∷◌, take, drop, length, Bool, true, false, cond, ◌==◌, ltb, leb, ◌&&◌, Option, Some, None, All, refl, subst, inl, inr, arith}
use Rattle.std.specs.Char.{is_ascii}
use Rattle.std.specs.List.{list_all}
use Rattle.std.specs.Str.{IsAscii, IsUtf8}
use Rattle.std.proofs.lemmas.Bool.Decides.{nat_tests}
use Rattle.std.proofs.lemmas.List.Elements.{All-cons, All-nil}
use Rattle.std.proofs.lemmas.Str.{IsAscii-drop, IsAscii-take, IsUtf8-from_ascii, IsUtf8-nil}
use Rattle.std.proofs.lemmas.Str.Ascii.{IsAscii-from_all}
use Rattle.matchit.proofs.OnLiterals.{matchit_on_literals}
use Rattle.matchit.specs.Params.{AllText, after_token, part_of, walk, wild_from, wild_stop}
use Rattle.matchit.specs.Rows.{RowsOf, catch_all_token, param_token}
use Rattle.matchit.specs.Router.{RouteOf}
use Rattle.matchit.specs.Seek.{first, has_slash, longest_suffix, or_else, own, param_step, same_text, seek, segment, step, with_suffix}
use Rattle.http_heads.specs.Routes.{Routes, routes, with_route}
use Rattle.http_heads.specs.declared.routes.Place.{Place}

-- ---- what holds for each route of a router holds for the one that a path has

abbrev pub AllKeys : {K : Type 0} → (K → Type 0) → RowsOf K → Type 0
AllKeys P [] = Unit {0}
AllKeys P ((pattern, key) ∷ rows) = P key × AllKeys P rows

module _ {K : Type 0} (P : K → Type 0) where
  keep_if : (b : Bool) (pattern : List ℕ) (key : K) (rows : RowsOf K) → P key → AllKeys P rows → AllKeys P (cond b ((pattern, key) ∷ rows) rows)
  keep_if true pattern key rows is all = (is, all)
  keep_if false pattern key rows is all = all

  step_keeps : (b : ℕ) (rows : RowsOf K) → AllKeys P rows → AllKeys P (step b rows)
  step_keeps b [] all = all
  step_keeps b (([], key) ∷ rows) all = step_keeps b rows all.1
  step_keeps b ((x ∷ pattern, key) ∷ rows) all = keep_if (x == b) pattern key (step b rows) all.0 (step_keeps b rows all.1)

  suffix_keeps : (suffix : List ℕ) (rows : RowsOf K) → AllKeys P rows → AllKeys P (with_suffix suffix rows)
  suffix_keeps suffix [] all = all
  suffix_keeps suffix ((pattern, key) ∷ rows) all =
      keep_if (same_text (segment pattern) suffix) pattern key (with_suffix suffix rows) all.0 (suffix_keeps suffix rows all.1)

  param_keeps_by : (a b : Bool) (n m : ℕ) (ours rows : RowsOf K) → AllKeys P ours → AllKeys P rows
      → AllKeys P (cond {A = ℕ × RowsOf K} a (n, ours) (cond {A = ℕ × RowsOf K} b (0, []) (m, rows))).1
  param_keeps_by true b n m ours rows these all = these
  param_keeps_by false true n m ours rows these all = tt
  param_keeps_by false false n m ours rows these all = all

  param_keeps : (rows : RowsOf K) (path : List ℕ) → AllKeys P rows → AllKeys P (param_step rows path).1
  unfolding param_step
  param_keeps rows path all =
      let suffix = longest_suffix (segment path) rows in
      param_keeps_by (ltb 0 (length suffix)) (has_slash path) (length (segment path) - length suffix) (length path)
      (with_suffix suffix rows) rows (suffix_keeps suffix rows all) all

  own_found : (rows : RowsOf K) (key : K) → AllKeys P rows → own rows ≡ Some key → P key
  own_found [] key all is = cc
  own_found (([], other) ∷ rows) key all is = let same : other ≡ key = cc in subst P same all.0
  own_found ((x ∷ pattern, other) ∷ rows) key all is = own_found rows key all.1 is

  either : (one other : Option K) (key : K) → or_else one other ≡ Some key → (one ≡ Some key) ⊎ (other ≡ Some key)
  either None other key is = inr is
  either (Some found) other key is = inl is

  pub seek_found : (skip : ℕ) (rows : RowsOf K) (path : List ℕ) (key : K) → AllKeys P rows → seek skip rows path ≡ Some key → P key
  unfolding seek
  seek_found zero rows [] key all is = own_found rows key all is
  seek_found (suc skip) rows [] key all is = own_found rows key all is
  seek_found (suc skip) rows (b ∷ path) key all is = seek_found skip rows path key all is
  seek_found zero rows (b ∷ path) key all is =
      let wild = step param_token rows in
      let taken = param_step wild (b ∷ path) in
      let by_param = seek (taken.0 - 1) taken.1 path in
      let by_rest = own (step catch_all_token rows) in
      seek_by (seek 0 (step b rows) path) by_param by_rest key (λ here. seek_found 0 (step b rows) path key (step_keeps b rows all) here)
      (λ here. seek_found (taken.0 - 1) taken.1 path key (param_keeps wild (b ∷ path) (step_keeps param_token rows all)) here)
      (λ here. own_found (step catch_all_token rows) key (step_keeps catch_all_token rows all) here) is
    where
      seek_by : (one two three : Option K) (key : K) → (one ≡ Some key → P key) → (two ≡ Some key → P key) → (three ≡ Some key → P key)
          → or_else one (or_else two three) ≡ Some key → P key
      seek_by (Some a) two three key first second third is = first is
      seek_by None (Some b) three key first second third is = second is
      seek_by None None three key first second third is = third is

-- ---- the texts of the routes

abbrev IsPlain : RouteOf Place → Type 0
IsPlain route = list_all is_ascii route.text ≡ true

all_plain : AllKeys IsPlain routes
unfolding routes with_route matchit_on_literals
all_plain = (refl, (refl, (refl, (refl, (refl, (refl, (refl, tt)))))))

-- the text of the route that a path has is ASCII
pub route_plain : (all : Routes) (path : List ℕ) (route : RouteOf Place) → all ≡ routes → first all path ≡ Some route
    → list_all is_ascii route.text ≡ true
route_plain all path route is found =
    let F : Routes → Type 0 = λ rows. first rows path ≡ Some route in
    seek_found IsPlain 0 routes path route all_plain (subst F is found)

-- ---- texts

ascii_each : (bytes : List ℕ) → list_all is_ascii bytes ≡ true → All (λ b. b < 128) bytes
ascii_each [] is = All-nil (λ b. b < 128)
ascii_each (b ∷ bytes) is = All-cons (λ b. b < 128) b bytes (grind (arith, nat_tests)) (ascii_each bytes (grind (arith, nat_tests)))

pub ascii_of : (bytes : List ℕ) → list_all is_ascii bytes ≡ true → IsAscii bytes
ascii_of bytes is = IsAscii-from_all bytes (ascii_each bytes is)

part_by : (b : Bool) (part : List ℕ) → IsAscii part → IsUtf8 (cond b part [])
part_by true part is = IsUtf8-from_ascii part is
part_by false part is = IsUtf8-nil

part_text : (bytes : List ℕ) (start end : ℕ) → IsAscii bytes → IsUtf8 (part_of bytes start end)
part_text bytes start end is =
    part_by (leb start end && leb end (length bytes)) (take (end - start) (drop start bytes))
    (IsAscii-take (drop start bytes) (end - start) (IsAscii-drop bytes start is))

-- what the parameters of an ASCII route take from an ASCII path are texts
pub walk_texts : (pattern text path : List ℕ) (names : List (ℕ × ℕ)) (token at : ℕ) → IsAscii text → IsAscii path
    → AllText (walk pattern text path names token at)
walk_texts pattern text path [] token at plain is = tt
walk_texts pattern text path (name ∷ names) token at plain is =
    let wild = wild_from (drop token pattern) (length path) token at in
    let stop = wild_stop pattern wild.0 path wild.1 in (
      part_text text name.0 name.1 plain,
      part_text path wild.1 stop is,
      walk_texts pattern text path names (after_token wild.0) stop plain is,
    )

pub words_are_texts : (pattern text path : List ℕ) (names : List (ℕ × ℕ)) → list_all is_ascii text ≡ true
    → list_all is_ascii path ≡ true → AllText (walk pattern text path names 0 0)
words_are_texts pattern text path names plain is = walk_texts pattern text path names 0 0 (ascii_of text plain) (ascii_of path is)
