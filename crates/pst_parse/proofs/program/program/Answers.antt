use Rattle.std.proofs.Common.{◌∙◌, ◌-◌, drop, length, sym, subst}
use Rattle.std.specs.Prelude.{Err}
use Rattle.std.proofs.lemmas.Result.{err_from_is_err_and}
use Rattle.pst_parse_expressions.specs.View.{atoms_of}
use Rattle.pst_parse.proofs.Opened.{room_filled, kept_behind, opening_bad, behind_bad}
use Rattle.pst_lex.specs.declared.lexer.Lexer.{Lexer}
use Rattle.pst_parse.specs.declared.fault.ParseFault.{ParseFault}
use Rattle.pst_parse.specs.Answers.{IsReading}
use Rattle.pst_parse.specs.Window.{IsReached}
use Rattle.pst_parse.proofs.Windows.{fill_fails}
use Rattle.pst_parse.proofs.program.program.Goals as goal

pub opening-requires : goal.opening-requires
opening-requires c = room_filled c.new-window.result c.fill.new.self c.in_ok-fill.ensures.filled

pub returns-in_err-fill-clause-parses : goal.returns-in_err-fill-clause-parses
returns-in_err-fill-clause-parses c = λ ts end lexes.
    let p = err_from_is_err_and c.from_residual.result c.from_residual.ensures.1 in
    rw (p.1, p.2) (fill_fails (λ (f : ParseFault). IsReading (Err f) (atoms_of ts) end) _ c.new-window.result (atoms_of ts) end (c.new-window.ensures.2 ts end lexes) c.in_err-fill.ensures.err tt)

pub returns-in_err-language-clause-parses : goal.returns-in_err-language-clause-parses
returns-in_err-language-clause-parses c = λ ts end lexes.
    let tokens = atoms_of ts in
    let p = err_from_is_err_and c.from_residual-in_err-language.result c.from_residual-in_err-language.ensures.1 in
    let ahead = c.in_ok-fill.ensures.ahead tokens end (c.new-window.ensures.2 ts end lexes) in
    rw (p.1, p.2) (opening_bad _ c.fill.new.self tokens end (c.in_err-language.ensures.opens tokens end ahead))

pub returns-in_err-declarations-clause-parses : goal.returns-in_err-declarations-clause-parses
returns-in_err-declarations-clause-parses c = λ ts end lexes.
    let tokens = atoms_of ts in
    let p = err_from_is_err_and c.from_residual-in_err-declarations.result c.from_residual-in_err-declarations.ensures.1 in
    let ahead = c.in_ok-fill.ensures.ahead tokens end (c.new-window.ensures.2 ts end lexes) in
    let opened = c.in_ok-language.ensures.opens tokens end ahead in
    let n = length c.fill.new.self.tokens.items - c.in_ok-language.left in
    let behind = kept_behind c.fill.new.self c.keep.new.self tokens c.in_ok-language.left end ahead c.keep.ensures.tokens c.keep.ensures.lexer in
    rw (p.1, p.2) (behind_bad _ c.in_ok-language.language n end tokens opened.1 (c.in_err-declarations.ensures.declares (drop n tokens) end behind))

pub returns-clause-parses : goal.returns-clause-parses
returns-clause-parses c = λ ts end lexes.
    let tokens = atoms_of ts in
    let ahead = c.in_ok-fill.ensures.ahead tokens end (c.new-window.ensures.2 ts end lexes) in
    let opened = c.in_ok-language.ensures.opens tokens end ahead in
    let n = length c.fill.new.self.tokens.items - c.in_ok-language.left in
    let behind = kept_behind c.fill.new.self c.keep.new.self tokens c.in_ok-language.left end ahead c.keep.ensures.tokens c.keep.ensures.lexer in
    opened.1 ∙ c.in_ok-declarations.ensures.declares (drop n tokens) end behind

pub returns-clause-lexed : goal.returns-clause-lexed
returns-clause-lexed c =
    c.in_ok-declarations.ensures.lexed c.args.text.now (subst (λ (x : Lexer). IsReached c.args.text.now x) (sym c.keep.ensures.lexer)
    (c.in_ok-fill.ensures.reached c.args.text.now c.new-window.ensures.0))
