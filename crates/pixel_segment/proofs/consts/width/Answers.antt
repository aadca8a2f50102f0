-- `consts::width` meets its contract. Assumes nothing.
use Rattle.pixel_segment.proofs.consts.width.Goals as goal

pub returns-in-Cpu : goal.returns-in-Cpu
returns-in-Cpu c = rw c.in-Cpu.is

pub returns-in-Gpu : goal.returns-in-Gpu
returns-in-Gpu c = rw c.in-Gpu.is
