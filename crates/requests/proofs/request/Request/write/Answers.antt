use Rattle.std.proofs.Common.{ap}
use Rattle.requests.specs.Handles.{bits_of}
use Rattle.requests.specs.Asks.{asks, key_of, program_of, set_xdp, add_clsact, attach, replace, remove, list}
use Rattle.requests.specs.Bytes.{request_bytes}
use Rattle.requests.specs.Builders.{link_bytes, tc_bytes}
use Rattle.requests.specs.Refusals.{argument_fault}
use Rattle.requests.proofs.Standing.{wrote, wrote_as}
use Rattle.requests.proofs.request.Request.write.Goals as goal

pub returns-in-SetXdp : goal.returns-in-SetXdp
unfolding request_bytes link_bytes argument_fault
returns-in-SetXdp c =
    let s = c.in-SetXdp.set in
    let x = set_xdp s.interface s.descriptor s.expected s.mode in
    let w = wrote_as (asks c.args.self.now) x c.write.result c.args.out.now c.write.new.out (ap asks c.in-SetXdp.is)
    (wrote x c.write.result c.args.out.now c.write.new.out c.write.ensures) in
    record { written = w.0; stands = w.1 }

pub returns-in-AddClsact : goal.returns-in-AddClsact
unfolding request_bytes tc_bytes argument_fault
returns-in-AddClsact c =
    let x = add_clsact c.in-AddClsact.interface in
    let w = wrote_as (asks c.args.self.now) x c.write_add_clsact.result c.args.out.now c.write_add_clsact.new.out (ap asks c.in-AddClsact.is)
    (wrote x c.write_add_clsact.result c.args.out.now c.write_add_clsact.new.out c.write_add_clsact.ensures) in
    record { written = w.0; stands = w.1 }

pub returns-in-Attach : goal.returns-in-Attach
unfolding request_bytes tc_bytes argument_fault
returns-in-Attach c =
    let x = attach (key_of c.in-Attach.key) (program_of c.in-Attach.program) in
    let w = wrote_as (asks c.args.self.now) x c.write_filter.result c.args.out.now c.write_filter.new.out (ap asks c.in-Attach.is)
    (wrote x c.write_filter.result c.args.out.now c.write_filter.new.out c.write_filter.ensures) in
    record { written = w.0; stands = w.1 }

pub returns-in-Replace : goal.returns-in-Replace
unfolding request_bytes tc_bytes argument_fault
returns-in-Replace c =
    let x = replace (key_of c.in-Replace.key) (program_of c.in-Replace.program) in
    let w = wrote_as (asks c.args.self.now) x c.write_filter-in-Replace.result c.args.out.now c.write_filter-in-Replace.new.out (ap asks c.in-Replace.is)
    (wrote x c.write_filter-in-Replace.result c.args.out.now c.write_filter-in-Replace.new.out c.write_filter-in-Replace.ensures) in
    record { written = w.0; stands = w.1 }

pub returns-in-Remove : goal.returns-in-Remove
unfolding request_bytes tc_bytes argument_fault
returns-in-Remove c =
    let x = remove (key_of c.in-Remove.key) in
    let w = wrote_as (asks c.args.self.now) x c.write_remove.result c.args.out.now c.write_remove.new.out (ap asks c.in-Remove.is)
    (wrote x c.write_remove.result c.args.out.now c.write_remove.new.out c.write_remove.ensures) in
    record { written = w.0; stands = w.1 }

pub returns-in-List : goal.returns-in-List
unfolding request_bytes tc_bytes argument_fault
returns-in-List c =
    let x = list c.in-List.hook.interface (bits_of c.in-List.hook.parent) in
    let w = wrote_as (asks c.args.self.now) x c.write_list.result c.args.out.now c.write_list.new.out (ap asks c.in-List.is)
    (wrote x c.write_list.result c.args.out.now c.write_list.new.out c.write_list.ensures) in
    record { written = w.0; stands = w.1 }
