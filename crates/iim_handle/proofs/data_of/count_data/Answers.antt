use Rattle.std.proofs.Common.{ℕ, ◌≤◌, arith, inl, List, length}
use Rattle.std.proofs.lemmas.List.{length-map}
use Rattle.std.proofs.lemmas.List.Sums.{length-filter, count_by-le-length}
use Rattle.std.specs.List.{filter}
use Rattle.iim_fields.specs.Format.Records.{all_data, has_names}
use Rattle.iim_dataset.specs.Format.Datasets.{Dataset}
use Rattle.iim_handle.proofs.data_of.count_data.Goals as goal

no_more_data : (rec set : ℕ) (ds : List Dataset) → length (all_data rec set ds) ≤ length ds
no_more_data rec set ds =
    rw (length-map (filter (has_names rec set) ds) (λ (d : Dataset). d.octets), length-filter (has_names rec set) ds)
    (count_by-le-length (has_names rec set) ds)

pub count-requires-clause-fits : goal.count-requires-clause-fits
count-requires-clause-fits c =
    let few = c.fields.ensures.few.datasets in
    let less = no_more_data c.args.rec c.args.set c.args.envelope.now in
    inl (rw c.fields.ensures.fields (omega (arith, less, few)))
