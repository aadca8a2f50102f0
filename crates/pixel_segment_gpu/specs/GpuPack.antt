-- What packing for tiles four pixels high answers, in the numbers of the table of refusals. Stands for W-213: 'number 11 goes by these sizes'.
use Rattle.std.specs.Prelude.{Result, Ok, Err}
use Rattle.pixel_segment_gpu.specs.declared.GpuSegment.{GpuSegment}
use Rattle.refusals.specs.Refusal.{number_of}
use Rattle.refusals.specs.declared.Refusal.{Refusal}
use Rattle.laws.specs.Prelude.{ℕ, Answer, refused, given}

abbrev pub gpu_packed_answer : Result GpuSegment Refusal → Answer ℕ
gpu_packed_answer (Ok s) = given s.0
gpu_packed_answer (Err r) = refused (number_of r)
