use Rattle.std.proofs.Common.{rules}
use Rattle.cck_cache_rules.proofs.PathStatusLemmas.{changed_late, modified_late, no_changed, no_device, no_inode, no_modified, status_found}
use Rattle.cck_cache_rules.proofs.path_status.read_status.Goals as goal
use Rattle.cck_cache_rules.proofs.path_status.read_status.Goals.{then-modified-ge-NANOS_IN_A_SECOND-via-then-modified-ge-NANOS_IN_A_SECOND, then-modified-ge-NANOS_IN_A_SECOND-via-else-modified-ge-NANOS_IN_A_SECOND+then-changed-ge-NANOS_IN_A_SECOND}

pub returns-in_err-device : goal.returns-in_err-device
returns-in_err-device c = rw c.from_residual-in_err-device.ensures (no_device c.args.bytes.now c.in_ok-after.field-0.now c.in_ok-after.ensures.0 c.in_err-device.ensures)

pub returns-in_err-inode : goal.returns-in_err-inode
returns-in_err-inode c =
    rw c.from_residual-in_err-inode.ensures
    (no_inode c.args.bytes.now c.in_ok-after.field-0.now c.in_ok-after.ensures.0 c.in_ok-device.device c.in_ok-device.rest.now c.in_ok-device.ensures c.in_err-inode.ensures)

pub returns-in_err-modified : goal.returns-in_err-modified
returns-in_err-modified c =
    rw c.from_residual-in_err-modified.ensures
    (no_modified c.args.bytes.now c.in_ok-after.field-0.now c.in_ok-after.ensures.0 c.in_ok-device.device c.in_ok-device.rest.now c.in_ok-device.ensures
    c.in_ok-inode.inode c.in_ok-inode.rest.now c.in_ok-inode.ensures c.in_err-modified.ensures)

pub returns-in_err-changed : goal.returns-in_err-changed
returns-in_err-changed c =
    rw c.from_residual-in_err-changed.ensures
    (no_changed c.args.bytes.now c.in_ok-after.field-0.now c.in_ok-after.ensures.0 c.in_ok-device.device c.in_ok-device.rest.now c.in_ok-device.ensures
    c.in_ok-inode.inode c.in_ok-inode.rest.now c.in_ok-inode.ensures c.in_ok-modified.modified c.in_ok-modified.rest.now c.in_ok-modified.ensures (search rules) (search rules) c.in_err-changed.ensures)

pub returns-then-modified-ge-NANOS_IN_A_SECOND : goal.returns-then-modified-ge-NANOS_IN_A_SECOND
returns-then-modified-ge-NANOS_IN_A_SECOND c =
    elim c.then-modified-ge-NANOS_IN_A_SECOND.branch [
      | then-modified-ge-NANOS_IN_A_SECOND-via-then-modified-ge-NANOS_IN_A_SECOND w ↦ modified_late c.args.bytes.now c.in_ok-after.field-0.now c.in_ok-after.ensures.0 c.in_ok-device.device c.in_ok-device.rest.now c.in_ok-device.ensures
          c.in_ok-inode.inode c.in_ok-inode.rest.now c.in_ok-inode.ensures c.in_ok-modified.modified c.in_ok-modified.rest.now c.in_ok-modified.ensures (search rules) (search rules)
          c.in_ok-changed.changed c.in_ok-changed.path.now c.in_ok-changed.ensures (search rules) (search rules) w.if-modified-ge-NANOS_IN_A_SECOND.true
      | then-modified-ge-NANOS_IN_A_SECOND-via-else-modified-ge-NANOS_IN_A_SECOND+then-changed-ge-NANOS_IN_A_SECOND w ↦ changed_late c.args.bytes.now c.in_ok-after.field-0.now c.in_ok-after.ensures.0 c.in_ok-device.device c.in_ok-device.rest.now c.in_ok-device.ensures
          c.in_ok-inode.inode c.in_ok-inode.rest.now c.in_ok-inode.ensures c.in_ok-modified.modified c.in_ok-modified.rest.now c.in_ok-modified.ensures (search rules) (search rules)
          c.in_ok-changed.changed c.in_ok-changed.path.now c.in_ok-changed.ensures (search rules) (search rules) w.if-changed-ge-NANOS_IN_A_SECOND.true
    ]

pub returns : goal.returns
returns c =
    status_found c.args.bytes.now c.in_ok-after.field-0.now c.in_ok-after.ensures.0 c.in_ok-device.device c.in_ok-device.rest.now c.in_ok-device.ensures
    c.in_ok-inode.inode c.in_ok-inode.rest.now c.in_ok-inode.ensures c.in_ok-modified.modified c.in_ok-modified.rest.now c.in_ok-modified.ensures (search rules) (search rules)
    c.in_ok-changed.changed c.in_ok-changed.path.now c.in_ok-changed.ensures (search rules) (search rules) c.if-modified-ge-NANOS_IN_A_SECOND.false c.if-changed-ge-NANOS_IN_A_SECOND.false _
    (λ i. record { path = c.in_ok-changed.path.now; device = c.in_ok-device.device; inode = c.in_ok-inode.inode; modified = c.time_of.ensures i; changed = c.time_of-2.ensures i })
