-- Packing for tiles four pixels high. All else that its contracts say is of pixel_segment and segment_rows.
pub mod GpuPack
pub mod Edges
