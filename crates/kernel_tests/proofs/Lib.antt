mod ImageSamples
mod Samples
