-- `reason_file::explain_files` is safe: what was read lies within the buffers.
use Rattle.text.specs.Files.{read_count}
use Rattle.reason_file.proofs.explain_files.Goals as goal

pub slice_bounds-block-end : goal.slice_bounds-block-end
slice_bounds-block-end g c =
    let r = c.in_ok-bytes in
    (read_count _ r.ensures c.in-Some.is).0

pub slice_bounds-explain_place-end : goal.slice_bounds-explain_place-end
slice_bounds-explain_place-end g c =
    let r = c.in_ok-bytes in
    (read_count _ r.ensures c.in-Some.is).1

pub slice_bounds-map-end : goal.slice_bounds-map-end
slice_bounds-map-end g c =
    let r = c.in_ok-places in
    (read_count _ r.ensures c.in-Some-2.is).0

pub slice_bounds-explain_place-end-2 : goal.slice_bounds-explain_place-end-2
slice_bounds-explain_place-end-2 g c =
    let r = c.in_ok-places in
    (read_count _ r.ensures c.in-Some-2.is).1
