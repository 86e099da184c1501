pub mod Extremes
pub mod Histograms
pub mod RisingLaws
