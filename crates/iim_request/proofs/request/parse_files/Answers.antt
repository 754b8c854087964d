use Rattle.std.proofs.Common.{map, string_bytes}
use Rattle.iim_request.proofs.Requests.{matches_of_program}
use Rattle.iim_request.proofs.request.parse_files.Goals as goal

pub request_of-requires : goal.request_of-requires
request_of-requires c =
    let words = map string_bytes c.args.words.now in (
      words,
      matches_of_program words _ c.in_ok-matches.matches c.in_ok-command.ensures c.in_ok-matches.ensures.kinds (λ simple.
          (c.in_ok-matches.ensures.matches simple).1),
    )

pub returns-clause-ok : goal.returns-clause-ok
returns-clause-ok c =
    let words = map string_bytes c.args.words.now in
    c.request_of.ensures.ok words
    (matches_of_program words _ c.in_ok-matches.matches c.in_ok-command.ensures c.in_ok-matches.ensures.kinds (λ simple.
    (c.in_ok-matches.ensures.matches simple).1))

pub returns-clause-err : goal.returns-clause-err
returns-clause-err c =
    let words = map string_bytes c.args.words.now in
    c.request_of.ensures.err words
    (matches_of_program words _ c.in_ok-matches.matches c.in_ok-command.ensures c.in_ok-matches.ensures.kinds (λ simple.
    (c.in_ok-matches.ensures.matches simple).1))
