use Rattle.std.proofs.Common.{filter, length, string_bytes, sym, arith, ◌∙◌}
use Rattle.std.proofs.lemmas.Iterator.{YieldsList-from_chars}
use Rattle.std.proofs.lemmas.Iterator.Consumers.{YieldsList-end, YieldsList-turn}
use Rattle.std.proofs.lemmas.List.{length_push}
use Rattle.std.specs.Str.{chars}
use Rattle.name_search.proofs.Cutting.{cut_at, cut_end, read_on}
use Rattle.name_search.specs.Words.{is_word, word_pieces}
use Rattle.name_search.proofs.words.cut.Goals as goal

pub loop-c-preserved-in-Continue-branch-2 : goal.loop-c-preserved-in-Continue-branch-2
loop-c-preserved-in-Continue-branch-2 c =
    let t = YieldsList-turn (YieldsList-from_chars c.args.text.now c.utf8.text cc) c.loop-c.yielded _ c.loop-c.yielded_by _ _ c.in-Some.c c.in-Some.is c.next.ensures.steps in
    cut_at _ _ _ _ _ _ _ c.in-Some.c _ c.loop-c.invariant t.0 t.1 (length_push c.loop-c.yielded c.in-Some.c) (sym c.is_separator.ensures ∙ c.if-is_separator.true)
    c.in_ok-put_word.ensures.words c.in_ok-put_word.ensures.word

pub loop-c-preserved : goal.loop-c-preserved
loop-c-preserved c =
    let t = YieldsList-turn (YieldsList-from_chars c.args.text.now c.utf8.text cc) c.loop-c.yielded _ c.loop-c.yielded_by _ _ c.in-Some.c c.in-Some.is c.next.ensures.steps in
    read_on _ _ _ _ _ _ c.in-Some.c _ c.loop-c.invariant t.0 t.1 (length_push c.loop-c.yielded c.in-Some.c) (sym c.is_separator.ensures ∙ c.if-is_separator.false)
    c.in_ok-push.ensures.bytes

pub returns : goal.returns
returns c =
    let t = YieldsList-end (YieldsList-from_chars c.args.text.now c.utf8.text cc) c.loop-c.yielded _ c.loop-c.yielded_by _ _ c.in-None.is c.next.ensures.steps in
    c.from.ensures ∙ cut_end c.loop-c.words.items _ (string_bytes c.loop-c.word) (chars c.args.text.now) (length c.loop-c.yielded) (filter is_word (word_pieces (chars c.args.text.now))) c.loop-c.invariant (omega (arith, t.1)) c.in_ok-put_word-2.ensures.words
