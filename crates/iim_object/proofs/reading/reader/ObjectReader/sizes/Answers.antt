use Rattle.std.proofs.Common.{◌≡◌, rules, Some}
use Rattle.iim_object.proofs.Stands.{have_sizes}
use Rattle.iim_object.proofs.reading.reader.ObjectReader.sizes.Goals as goal

pub returns-clause-records : goal.returns-clause-records
returns-clause-records c = λ ds r st.
    let same : Some c.unwrap-state.result ≡ c.args.self.now = search rules in
    rw (c.is_given.ensures, c.unwrap_or.ensures) (have_sizes c.unwrap-state.result ds r (rw same st))
